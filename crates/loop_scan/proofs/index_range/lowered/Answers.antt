use Rattle.std.proofs.Common.{◌∷◌, ◌++◌, [], sym, subst, arith, rules, to_z, of_z, FitsSigned, ◌≤ℤ◌}
use Rattle.std.specs.Int.{w128}
use Rattle.std.specs.Option.{option_to_list}
use Rattle.std.proofs.lemmas.Int.{ints, to_z-of_z}
use Rattle.loop_scan.specs.Boxes.{IsLeast}
use Rattle.loop_scan.specs.Nest.Indices.{IsLeastOf}
use Rattle.loop_scan.proofs.Indices.{least-new}
use Rattle.loop_scan.proofs.index_range.lowered.Goals as goal

pub returns-else-high-bound : goal.returns-else-high-bound
returns-else-high-bound c = λ bounds h.
    let bound = c.in-Some.bound in
    let high = c.in-Some-high.high in
    let bound_fits : FitsSigned w128 bound = search rules in
    let high_fits : FitsSigned w128 high = search rules in
    let less : bound ≤ℤ high = omega (arith, ints, c.if-high-bound.false, to_z-of_z w128 bound bound_fits, to_z-of_z w128 high high_fits) in
    let best : IsLeast (bounds ++ bound ∷ []) bound = least-new bounds high bound less (subst (λ o. IsLeastOf bounds o) c.in-Some-high.is h) in
    subst (λ o. IsLeast (bounds ++ option_to_list o) (to_z w128 (of_z w128 bound))) (sym c.in-Some.is)
    (subst (λ b. IsLeast (bounds ++ bound ∷ []) b) (sym (to_z-of_z w128 bound bound_fits)) best)
