use Rattle.std.proofs.Common.{◌≡◌, ◌-◌, [], ◌∷◌, true, arith, sym, ◌∙◌}
use Rattle.grammar_rules.specs.Rules.{put_last}
use Rattle.grammar_rules.specs.Readers.{sees}
use Rattle.grammar_rules.proofs.Turns.{onto_turn}
use Rattle.program_grammar.specs.Values.{product, sum}
use Rattle.program_grammar.specs.Words.{class}
use Rattle.program_grammar.specs.Readers.{read_branch, read_expr, read_factor, read_summand}
use Rattle.program_grammar.proofs.ExprRules.{factor_advances, summand_advances, branch_advances, at_ground, deeper}
use Rattle.program_grammar.proofs.expressions.+expressions.Goals as goal

pub branches-members-smaller : goal.branches-members-smaller
branches-members-smaller t c =
    (branch_advances c.args.depth).advances c.members.place.budget c.members.place.rest.now c.in_ok-next.next c.in_ok-next.end.rest.now c.in_ok-next.end.budget c.in_ok-next.ensures

pub branches-members-preserved : goal.branches-members-preserved
branches-members-preserved t c =
    let seen : sees class (0 ∷ []) c.members.place.rest.now ≡ true = cc in
    let pushed = c.in_ok-push-2.ensures.items in
    rw pushed
    (sym (onto_turn class (0 ∷ []) put_last (read_branch (read_expr c.args.depth)) (branch_advances c.args.depth) c.members.items.items c.members.place.budget c.members.place.rest.now
    c.in_ok-next.next c.in_ok-next.end.rest.now c.in_ok-next.end.budget seen c.in_ok-next.ensures)
    ∙ c.members.invariant)

pub product-factors-smaller : goal.product-factors-smaller
product-factors-smaller t c =
    (factor_advances c.args.depth).advances c.factors.place.budget c.factors.place.rest.now c.in_ok-next.next c.in_ok-next.end.rest.now c.in_ok-next.end.budget c.in_ok-next.ensures

pub product-factors-preserved : goal.product-factors-preserved
product-factors-preserved t c =
    let seen : sees class (21 ∷ []) c.factors.place.rest.now ≡ true = cc in
    rw c.in_ok-value-2.ensures
    (sym (onto_turn class (21 ∷ []) product (read_factor (read_expr c.args.depth)) (factor_advances c.args.depth) c.factors.value c.factors.place.budget c.factors.place.rest.now
    c.in_ok-next.next c.in_ok-next.end.rest.now c.in_ok-next.end.budget seen c.in_ok-next.ensures)
    ∙ c.factors.invariant)

pub sum-summands-smaller : goal.sum-summands-smaller
sum-summands-smaller t c =
    (summand_advances c.args.depth).advances c.summands.place.budget c.summands.place.rest.now (c.in_ok-negative.negative, c.in_ok-negative.next) c.in_ok-negative.end.rest.now c.in_ok-negative.end.budget c.in_ok-negative.ensures

pub sum-summands-preserved : goal.sum-summands-preserved
sum-summands-preserved t c =
    let seen : sees class (19 ∷ 20 ∷ []) c.summands.place.rest.now ≡ true = cc in
    rw (c.in_ok-value-2.ensures, c.signed.ensures)
    (sym (onto_turn class (19 ∷ 20 ∷ []) sum (read_summand (read_expr c.args.depth)) (summand_advances c.args.depth) c.summands.value c.summands.place.budget c.summands.place.rest.now
    (c.in_ok-negative.negative, c.in_ok-negative.next) c.in_ok-negative.end.rest.now c.in_ok-negative.end.budget seen c.in_ok-negative.ensures)
    ∙ c.summands.invariant)

pub expr-returns-then-depth-eq0 : goal.expr-returns-then-depth-eq0
expr-returns-then-depth-eq0 t c = rw (c.misplaced.ensures, c.if-depth-eq0.true) (at_ground c.args.cursor.budget c.args.cursor.rest.now)

pub expr-returns : goal.expr-returns
expr-returns t c = rw (deeper c.args.depth (c.args.depth - 1) c.args.cursor.budget c.args.cursor.rest.now (omega arith)) c.expr_body.ensures
