-- The resolved expression stands under as many indices as the one of the text.
use Rattle.std.proofs.Common.{◌≡◌, ℕ, ◌+◌, List, [], ◌∷◌, ◌++◌, length, refl, sym, ap, ◌∙◌, arith}
use Rattle.std.specs.Prelude.{map, max}
use Rattle.std.specs.List.{AllByRecursion}
use Rattle.az_ast.specs.declared.expr.Branch as program
use Rattle.az_ast.specs.Walks as ast
use Rattle.az_ast.specs.Term.{choices, term}
use Rattle.az_ast.proofs.Terms.{term-Const, term-Index, term-Access, term-Neg, term-Bin, term-Cases, term-Reduce}
use Rattle.program_grammar.specs.declared.tree.Branch.{Branch}
use Rattle.program_grammar.specs.declared.tree.Expr as tree
use Rattle.program_grammar.specs.declared.tree.Expr.TheVariants.{Negation, Binary, Cases, Reduction}
use Rattle.program_names.specs.Extras.{extra_under, extra_below}
use Rattle.program_names.proofs.ExtraLemmas.{extra-Constant, extra-Index, extra-Access, extra-Negation, extra-Binary, extra-Cases, extra-Reduction}
use Rattle.program_names.specs.Branches.{resolved_branch}
use Rattle.program_names.specs.Resolved.{op_of, number_of, expression}
use Rattle.program_names.specs.Sides.{Scope, alone, signed, row_of, map_of, union_of}
use Rattle.program_names.proofs.ExpressionLemmas.{expression-Constant, expression-Index, expression-Access, expression-Negation, expression-Binary, expression-Cases, expression-Reduction}
use Rattle.program_names.proofs.TreeInduction.{induct}

module _ (variables : List (List ℕ)) where
  abbrev HasSameExtras : tree.Expr → Type 0
  HasSameExtras e = (scope : Scope) → ast.extra_under (term (expression variables e scope)) ≡ extra_under e

  extras-below : (scope : Scope) (branches : List Branch) → AllByRecursion (λ (b : Branch). HasSameExtras b.body) branches →
      ast.extra_below (choices (map (λ (b : program.Branch). (b.domain, term b.body)) (map (resolved_branch variables scope) branches))) ≡ extra_below branches
  extras-below scope [] h = refl
  extras-below scope (b ∷ branches) h =
      ap (λ n. max n (ast.extra_below (choices (map (λ (b : program.Branch). (b.domain, term b.body)) (map (resolved_branch variables scope) branches))))) (h.0 scope)
      ∙ ap (max (extra_under b.body)) (extras-below scope branches h.1)

  pub extras-kept : (e : tree.Expr) → HasSameExtras e
  extras-kept =
      induct HasSameExtras
      (λ negative n scope. ap (λ x. ast.extra_under (term x)) (expression-Constant variables negative n scope) ∙ (ap ast.extra_under (term-Const (signed negative n)) ∙ sym (extra-Constant negative n)))
      (λ side scope. ap (λ x. ast.extra_under (term x)) (expression-Index variables side scope) ∙ (ap ast.extra_under (term-Index (row_of scope (alone side))) ∙ sym (extra-Index side)))
      (λ x sides scope. ap (λ x. ast.extra_under (term x)) (expression-Access variables x sides scope) ∙ (ap ast.extra_under (term-Access (number_of variables x) (map_of scope sides)) ∙ sym (extra-Access x sides)))
      (λ e h scope.
      let whole : ast.extra_under (term (expression variables (Negation e) scope)) ≡ ast.extra_under (term (expression variables e scope)) =
      ap (λ x. ast.extra_under (term x)) (expression-Negation variables e scope) ∙ ap ast.extra_under (term-Neg (expression variables e scope)) in
      let part = h scope in
      let text = extra-Negation e in
      omega (arith, whole, part, text))
      (λ op a b h k scope.
      let whole : ast.extra_under (term (expression variables (Binary op a b) scope)) ≡ max (ast.extra_under (term (expression variables a scope))) (ast.extra_under (term (expression variables b scope))) =
      ap (λ x. ast.extra_under (term x)) (expression-Binary variables op a b scope) ∙ ap ast.extra_under (term-Bin (op_of op) (expression variables a scope) (expression variables b scope)) in
      whole
      ∙ (ap (λ n. max n (ast.extra_under (term (expression variables b scope)))) (h scope)
      ∙ (ap (max (extra_under a)) (k scope) ∙ sym (extra-Binary op a b))))
      (λ branches h scope.
      let items = map (resolved_branch variables scope) branches in
      let whole : ast.extra_under (term (expression variables (Cases branches) scope)) ≡ ast.extra_below (choices (map (λ (b : program.Branch). (b.domain, term b.body)) items)) =
      ap (λ x. ast.extra_under (term x)) (expression-Cases variables branches scope) ∙ ap ast.extra_under (term-Cases items) in
      let parts = extras-below scope branches h in
      let text = extra-Cases branches in
      omega (arith, whole, parts, text))
      (λ op extra chains e h scope.
      let whole : ast.extra_under (term (expression variables (Reduction op extra chains e) scope)) ≡ length extra + ast.extra_under (term (expression variables e (scope ++ extra))) =
      ap (λ x. ast.extra_under (term x)) (expression-Reduction variables op extra chains e scope)
      ∙ ap ast.extra_under (term-Reduce (op_of op) (length extra) (union_of (scope ++ extra) (chains ∷ [])) (expression variables e (scope ++ extra))) in
      let part = h (scope ++ extra) in
      let text = extra-Reduction op extra chains e in
      omega (arith, whole, part, text))
