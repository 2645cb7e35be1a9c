use Rattle.std.proofs.Common.{◌∷◌, ◌++◌, [], sym, subst, arith, rules, to_z, of_z, FitsSigned, ◌≤ℤ◌}
use Rattle.std.specs.Int.{w128}
use Rattle.std.specs.Option.{option_to_list}
use Rattle.std.proofs.lemmas.Int.{ints, to_z-of_z}
use Rattle.loop_scan.specs.Boxes.{IsGreatest}
use Rattle.loop_scan.specs.Nest.Indices.{IsGreatestOf}
use Rattle.loop_scan.proofs.Indices.{greatest-new}
use Rattle.loop_scan.proofs.index_range.raised.Goals as goal

pub returns-else-bound-low : goal.returns-else-bound-low
returns-else-bound-low c = λ bounds h.
    let bound = c.in-Some.bound in
    let low = c.in-Some-low.low in
    let bound_fits : FitsSigned w128 bound = search rules in
    let low_fits : FitsSigned w128 low = search rules in
    let less : low ≤ℤ bound = omega (arith, ints, c.if-bound-low.false, to_z-of_z w128 bound bound_fits, to_z-of_z w128 low low_fits) in
    let best : IsGreatest (bounds ++ bound ∷ []) bound = greatest-new bounds low bound less (subst (λ o. IsGreatestOf bounds o) c.in-Some-low.is h) in
    subst (λ o. IsGreatest (bounds ++ option_to_list o) (to_z w128 (of_z w128 bound))) (sym c.in-Some.is)
    (subst (λ b. IsGreatest (bounds ++ bound ∷ []) b) (sym (to_z-of_z w128 bound bound_fits)) best)
