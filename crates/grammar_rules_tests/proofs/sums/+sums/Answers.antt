use Rattle.std.proofs.Common.{◌≡◌, ◌-◌, [], ◌∷◌, true, arith, sym, ◌∙◌}
use Rattle.grammar_rules.specs.Readers.{sees}
use Rattle.grammar_rules_tests.specs.Sums.{class, signed, times, read_sum, read_term, read_factor}
use Rattle.grammar_rules_tests.proofs.SumRules.{factor_advances, term_advances, at_ground, deeper}
use Rattle.grammar_rules.proofs.Turns.{onto_turn}
use Rattle.grammar_rules_tests.proofs.sums.+sums.Goals as goal

pub product-factors-smaller : goal.product-factors-smaller
product-factors-smaller t c =
    (factor_advances c.args.depth).advances c.factors.place.budget c.factors.place.rest.now c.in_ok-operand.operand c.in_ok-operand.end.rest.now c.in_ok-operand.end.budget c.in_ok-operand.ensures

pub product-factors-preserved : goal.product-factors-preserved
product-factors-preserved t c =
    let seen : sees class (21 ∷ []) c.factors.place.rest.now ≡ true = cc in
    sym (onto_turn class (21 ∷ []) times (read_factor (read_sum c.args.depth)) (factor_advances c.args.depth) c.factors.value c.factors.place.budget c.factors.place.rest.now
    c.in_ok-operand.operand c.in_ok-operand.end.rest.now c.in_ok-operand.end.budget seen c.in_ok-operand.ensures)
    ∙ c.factors.invariant

pub terms-terms-smaller : goal.terms-terms-smaller
terms-terms-smaller t c =
    (term_advances c.args.depth).advances c.terms.place.budget c.terms.place.rest.now (c.in_ok-sign.sign, c.in_ok-sign.operand) c.in_ok-sign.end.rest.now c.in_ok-sign.end.budget c.in_ok-sign.ensures

pub terms-terms-preserved : goal.terms-terms-preserved
terms-terms-preserved t c =
    let seen : sees class (19 ∷ 20 ∷ []) c.terms.place.rest.now ≡ true = cc in
    rw c.apply-value.ensures
    (sym (onto_turn class (19 ∷ 20 ∷ []) signed (read_term (read_sum c.args.depth)) (term_advances c.args.depth) c.terms.value c.terms.place.budget c.terms.place.rest.now
    (c.in_ok-sign.sign, c.in_ok-sign.operand) c.in_ok-sign.end.rest.now c.in_ok-sign.end.budget seen c.in_ok-sign.ensures)
    ∙ c.terms.invariant)

pub sum-returns-then-depth-eq0 : goal.sum-returns-then-depth-eq0
sum-returns-then-depth-eq0 t c = rw (c.misplaced.ensures, c.if-depth-eq0.true) (at_ground c.args.cursor.budget c.args.cursor.rest.now)

pub sum-returns : goal.sum-returns
sum-returns t c = rw (deeper c.args.depth (c.args.depth - 1) c.args.cursor.budget c.args.cursor.rest.now (omega arith)) c.terms.ensures
