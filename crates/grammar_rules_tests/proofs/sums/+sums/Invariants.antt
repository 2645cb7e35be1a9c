use Rattle.std.proofs.Common.{◌≡◌, ◌+◌, ◌*◌, [], ◌∷◌, length}
use Rattle.grammar_rules.specs.Readers.{read_onto}
use Rattle.grammar_rules_tests.specs.Sums.{class, signed, times, read_sum, read_term, read_factor}
use Rattle.grammar_rules_tests.proofs.sums.+sums.Given as goal

-- each function calls one that stands lower at its depth, and `sum` those of the depth below
abbrev pub decreases-sum : goal.decreases-sum
decreases-sum l = 16 * l.depth

abbrev pub decreases-primary : goal.decreases-primary
decreases-primary l = 16 * l.depth + 2

abbrev pub decreases-unary : goal.decreases-unary
decreases-unary l = 16 * l.depth + 4

abbrev pub decreases-factor : goal.decreases-factor
decreases-factor l = 16 * l.depth + 6

abbrev pub decreases-product : goal.decreases-product
decreases-product l = 16 * l.depth + 8

abbrev pub decreases-term : goal.decreases-term
decreases-term l = 16 * l.depth + 10

abbrev pub decreases-terms : goal.decreases-terms
decreases-terms l = 16 * l.depth + 12

-- what is left to read gives the answer of the whole
abbrev pub invariant-product-factors : goal.invariant-product-factors
invariant-product-factors l =
    read_onto class (21 ∷ []) times (read_factor (read_sum l.depth)) l.value l.place.budget l.place.rest.now
    ≡ read_onto class (21 ∷ []) times (read_factor (read_sum l.depth)) l.initial.value l.initial.place.budget l.initial.place.rest.now

abbrev pub decreases-product-factors : goal.decreases-product-factors
decreases-product-factors l = length l.place.rest.now

abbrev pub invariant-terms-terms : goal.invariant-terms-terms
invariant-terms-terms l =
    read_onto class (19 ∷ 20 ∷ []) signed (read_term (read_sum l.depth)) l.value l.place.budget l.place.rest.now
    ≡ read_onto class (19 ∷ 20 ∷ []) signed (read_term (read_sum l.depth)) l.initial.value l.initial.place.budget l.initial.place.rest.now

abbrev pub decreases-terms-terms : goal.decreases-terms-terms
decreases-terms-terms l = length l.place.rest.now
