use Rattle.std.proofs.Common.{◌≡◌, ◌∙◌, sym, ap, subst, true, get_or}
use Rattle.std.proofs.lemmas.List.Sums.{passes_at_first}
use Rattle.az_lin.specs.Affine.{Affine}
use Rattle.az_lin.specs.Inversion.{reaches}
use Rattle.az_lin.proofs.tableau.Tableau.step.Goals as goal

-- the row at the place that was found is the pivot, and has an entry in the column
pub clear-requires-clause-pivot : goal.clear-requires-clause-pivot
clear-requires-clause-pivot c =
    let j = c.len-column.result in
    let rest = c.self.inside.rest.items in
    let pivot = c.remove-pivot.result in
    let found = rw c.as_slice.ensures.value at c.in-Some.ensures in
    subst (λ (row : Affine). reaches j row ≡ true) (ap (λ k. get_or rest k pivot) (sym found.1) ∙ sym c.remove-pivot.ensures.value)
    (passes_at_first (reaches j) rest pivot found.0)

pub clear-requires-2-clause-pivot : goal.clear-requires-2-clause-pivot
clear-requires-2-clause-pivot c =
    let j = c.len-column.result in
    let rest = c.self.inside.rest.items in
    let pivot = c.remove-pivot.result in
    let found = rw c.as_slice.ensures.value at c.in-Some.ensures in
    subst (λ (row : Affine). reaches j row ≡ true) (ap (λ k. get_or rest k pivot) (sym found.1) ∙ sym c.remove-pivot.ensures.value)
    (passes_at_first (reaches j) rest pivot found.0)
