use Rattle.std.proofs.Common.{rules, ◌≡◌, ◌<◌, ℕ, ℤ, pos, List, length, get_or, ap, sym, ◌∙◌, arith, FitsSigned}
use Rattle.std.specs.Int.{w128, int_rem_euclid}
use Rattle.std.proofs.lemmas.Int.{to_z-of_z}
use Rattle.std.proofs.lemmas.List.{get_or_read}
use Rattle.az_lin.specs.Affine.{Affine, value_at, image_of}
use Rattle.plan_cells.proofs.Coordinates.{image-at, coordinate-is, remainder-is}
use Rattle.plan_words.specs.Cells.{reduced}
use Rattle.plan_cells.proofs.numbers.coordinate_at.Goals as goal

pub returns-in-0 : goal.returns-in-0
returns-in-0 c =
    let storage = c.args.storage.now in
    let z = c.args.z.now in
    let v : ℤ = c.value-value.result in
    let fits : FitsSigned w128 v = search rules in
    let row = c.index-rows-number.result in
    let within : c.args.number < length c.rows.result.now = omega (arith, c.requires.declared, c.requires.rows, ap length c.rows.ensures.value) in
    let row_is : row ≡ get_or storage.map.rows c.args.number row = get_or_read c.rows.result.now c.args.number row within c.index-rows-number.is row ∙ ap (λ (rs : List Affine). get_or rs c.args.number row) c.rows.ensures.value in
    let value : v ≡ get_or (image_of storage.map z) c.args.number (pos 0)
    = c.value-value.ensures.value ∙ (ap (λ r. value_at r z) row_is ∙ sym (image-at storage.map z c.args.number row (omega (arith, c.requires.declared, c.requires.rows)))) in
    let zero : get_or storage.factors c.args.number 0 ≡ 0 = ap (λ (fs : List ℕ). get_or fs c.args.number 0) (sym c.as_slice.ensures) ∙ c.in-0.is in
    to_z-of_z w128 v fits ∙ (ap (λ f. reduced f v) (sym zero) ∙ coordinate-is storage z c.args.number 0 v c.requires.rows c.requires.declared value)

pub returns-in_default : goal.returns-in_default
returns-in_default c =
    let storage = c.args.storage.now in
    let z = c.args.z.now in
    let v : ℤ = c.value-value.result in
    let fits : FitsSigned w128 v = search rules in
    let factor : ℤ = c.from.result in
    let held : FitsSigned w128 factor = search rules in
    let rest : ℤ = c.rem_euclid.result in
    let kept : FitsSigned w128 rest = search rules in
    let row = c.index-rows-number.result in
    let within : c.args.number < length c.rows.result.now = omega (arith, c.requires.declared, c.requires.rows, ap length c.rows.ensures.value) in
    let row_is : row ≡ get_or storage.map.rows c.args.number row = get_or_read c.rows.result.now c.args.number row within c.index-rows-number.is row ∙ ap (λ (rs : List Affine). get_or rs c.args.number row) c.rows.ensures.value in
    let value : v ≡ get_or (image_of storage.map z) c.args.number (pos 0)
    = c.value-value.ensures.value ∙ (ap (λ r. value_at r z) row_is ∙ sym (image-at storage.map z c.args.number row (omega (arith, c.requires.declared, c.requires.rows)))) in
    let is : factor ≡ pos (get_or storage.factors c.args.number 0) = c.from.ensures ∙ ap (λ (fs : List ℕ). pos (get_or fs c.args.number 0)) c.as_slice.ensures in
    let reduces : rest ≡ int_rem_euclid v (pos (get_or storage.factors c.args.number 0))
    = c.rem_euclid.ensures.value ∙ ((λ i. int_rem_euclid (to_z-of_z w128 v fits i) (to_z-of_z w128 factor held i)) ∙ ap (int_rem_euclid v) is) in
    let away : 0 < get_or c.as_slice.result.now c.args.number 0 = search rules in
    let positive : 0 < get_or storage.factors c.args.number 0 = omega (arith, away, ap (λ (fs : List ℕ). get_or fs c.args.number 0) c.as_slice.ensures) in
    to_z-of_z w128 rest kept ∙ (reduces ∙ (remainder-is (get_or storage.factors c.args.number 0) v positive ∙ coordinate-is storage z c.args.number 0 v c.requires.rows c.requires.declared value))
