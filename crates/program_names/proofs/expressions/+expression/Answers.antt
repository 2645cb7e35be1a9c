use Rattle.std.proofs.Common.{rules, arith, ◌≡◌, ◌++◌, [], ◌∷◌, ◌-◌, length, take, drop, sym, ap, subst, ◌∙◌}
use Rattle.std.specs.Prelude.{map, IfOk}
use Rattle.std.proofs.lemmas.List.{append_assoc}
use Rattle.az_ast.specs.declared.expr.Expr.TheVariants as form
use Rattle.program_names.specs.Branches.{resolved_branch}
use Rattle.program_names.specs.Refusals.{is_wide_literal, is_wide_row}
use Rattle.program_names.specs.Resolved.{expression}
use Rattle.program_grammar.specs.Nodes.{nodes, nodes_of_bodies}
use Rattle.program_grammar.proofs.NodeLemmas.{nodes-Binary, nodes-Cases}
use Rattle.program_names.proofs.ExtraLemmas.{narrow-left, narrow-cases, narrow-rest}
use Rattle.program_names.proofs.ExpressionLemmas.{expression-Cases, access-fits, domain-fits, left-fits, cases-fit, rest-fits, first-and-rest, nodes-positive}
use Rattle.program_names.proofs.expressions.+expression.Goals as goal

pub expression-map_of-requires : goal.expression-map_of-requires
expression-map_of-requires t c =
    access-fits c.args.scope.now c.args.expr.now c.in-Access.name c.in-Access.sides c.as_slice-in-Access.result.now c.in-Access.is c.as_slice-in-Access.ensures c.requires.rows

pub expression-expression-requires-in-Binary : goal.expression-expression-requires-in-Binary
expression-expression-requires-in-Binary t c =
    let e = c.args.expr.now in
    let got = c.get-in-Binary.result.now in
    let b = c.in-Binary in
    let same : got ≡ b.a = search rules in
    let whole = ap nodes b.is ∙ nodes-Binary b.operator b.a b.b in
    let part = ap nodes same in
    let before = c.decreases in (
      omega (arith, whole, part, before),
      (
        c.requires.few,
        (
          narrow-left 16 e got b.operator b.a b.b b.is same c.requires.narrow,
          (left-fits is_wide_literal c.args.scope.now e got b.operator b.a b.b b.is same c.requires.literals, left-fits is_wide_row c.args.scope.now e got b.operator b.a b.b b.is same c.requires.rows),
        ),
      ),
    )

pub expression-with_branches-requires : goal.expression-with_branches-requires
expression-with_branches-requires t c =
    let e = c.args.expr.now in
    let got = c.as_slice-in-Cases.result.now in
    let same : got ≡ c.in-Cases.branches = search rules in
    let whole = ap nodes c.in-Cases.is ∙ nodes-Cases c.in-Cases.branches in
    let part = ap nodes_of_bodies same in
    let before = c.decreases in (
      omega (arith, whole, part, before),
      (
        c.requires.few,
        (
          narrow-cases 16 e got c.in-Cases.branches c.in-Cases.is same c.requires.narrow,
          (cases-fit is_wide_literal c.args.scope.now e got c.in-Cases.branches c.in-Cases.is same c.requires.literals, cases-fit is_wide_row c.args.scope.now e got c.in-Cases.branches c.in-Cases.is same c.requires.rows),
        ),
      ),
    )

pub expression-plain_domain-requires : goal.expression-plain_domain-requires
expression-plain_domain-requires t c =
    let r = c.in-Reduction in
    let inner : c.in_ok-inner-in-Reduction.inner ≡ c.args.scope.now ++ r.extra = search rules in
    let same : c.as_slice-in-Reduction-2.result.now ≡ r.chains = search rules in
    domain-fits c.args.scope.now c.in_ok-inner-in-Reduction.inner c.args.expr.now r.operator r.extra r.chains c.as_slice-in-Reduction-2.result.now r.body r.is inner same c.requires.rows

pub expression-returns-in_ok-items-in-Cases-clause-ok : goal.expression-returns-in_ok-items-in-Cases-clause-ok
expression-returns-in_ok-items-in-Cases-clause-ok t c =
    let variables = c.args.variables.now in
    let scope = c.args.scope.now in
    let slice = c.as_slice-in-Cases.result.now in
    let made : c.in_ok-items-in-Cases.items ≡ c.new-none.result ++ map (resolved_branch variables scope) slice = search rules in
    let none : c.new-none.result ≡ [] = search rules in
    let same : slice ≡ c.in-Cases.branches = search rules in
    ap form.Cases (made ∙ (ap (λ n. n ++ map (resolved_branch variables scope) slice) none ∙ ap (map (resolved_branch variables scope)) same))
    ∙ (sym (expression-Cases variables c.in-Cases.branches scope) ∙ ap (λ e. expression variables e scope) (sym c.in-Cases.is))

pub with_branches-with_branches-requires : goal.with_branches-with_branches-requires
with_branches-with_branches-requires t c =
    let bs = c.args.branches.now in
    let rest = take (length bs - 1) (drop 1 bs) in
    let split = first-and-rest bs c.first-item.result c.in-len1-up.len_at_least c.first-item.is in
    let whole = ap nodes_of_bodies split in
    let some = nodes-positive c.first-item.result.body in
    let before = c.decreases in (
      omega (arith, whole, some, before),
      (
        c.requires.few,
        (
          narrow-rest 16 bs rest c.first-item.result split c.requires.narrow,
          (rest-fits is_wide_literal c.args.scope.now bs rest c.first-item.result split c.requires.literals, rest-fits is_wide_row c.args.scope.now bs rest c.first-item.result split c.requires.rows),
        ),
      ),
    )

pub with_branches-returns-in_ok-push-in-len1-up-clause-ok : goal.with_branches-returns-in_ok-push-in-len1-up-clause-ok
with_branches-returns-in_ok-push-in-len1-up-clause-ok t c =
    let f = resolved_branch c.args.variables.now c.args.scope.now in
    let bs = c.args.branches.now in
    let b = c.first-item.result in
    let rest = take (length bs - 1) (drop 1 bs) in
    let split = first-and-rest bs b c.in-len1-up.len_at_least c.first-item.is in
    let pushed : c.push.new.self ≡ c.args.items ++ f b ∷ [] = search rules in
    let same : c.push.new.self ++ map f rest ≡ c.args.items ++ map f bs =
    ap (λ r. r ++ map f rest) pushed ∙ (append_assoc c.args.items (f b ∷ []) (map f rest) ∙ ap (λ r. c.args.items ++ map f r) (sym split)) in
    subst (λ x. IfOk c.with_branches.result (λ more. more ≡ x)) same c.with_branches.ensures.ok
