use Rattle.std.proofs.Common.{◌≡◌, ◌++◌, ◌∙◌, arith, ap, subst, sym, length, take, List, All, ℕ}
use Rattle.std.proofs.Math.Seq.{take-length}
use Rattle.std.proofs.lemmas.List.Elements.{All-same, All-append}
use Rattle.az_lin.specs.Affine.{Affine, AffineMap, HasWidth, image_of}
use Rattle.az_lin.specs.Columns.{unit_rows, reading}
use Rattle.az_lin.proofs.Columns.{image_of-reading}
use Rattle.az_lin.proofs.Substitution.{map_is}
use Rattle.row_columns.proofs.Made.{widths_unit_rows}
use Rattle.row_columns.proofs.keep.reading.Goals as goal

made : (width own params i : ℕ) (rows all done got : List Affine) → width ≡ own → all ≡ rows → i ≡ length all → done ≡ unit_rows width 0 params ++ take i all
    → got ≡ done → got ≡ (reading params (record { width = own; rows = rows })).rows
made width own params i rows all done got same same' full so_far is =
    is ∙ so_far ∙ ap (λ n. unit_rows width 0 params ++ take n all) full ∙ ap (λ (rs : List Affine). unit_rows width 0 params ++ rs) (take-length all ∙ same')
    ∙ ap (λ w. unit_rows w 0 params ++ rows) same

pub new-requires : goal.new-requires
new-requires c =
    let f = c.args.f.now in
    let params = c.args.params in
    let full : c.rows.row-index ≡ length c.rows-row-items.result.now = omega arith in
    let rows : c.from_vec.result ≡ (reading params f).rows =
    made c.width-width.result f.width params c.rows.row-index f.rows c.rows-row-items.result.now c.rows.rows.items c.from_vec.result
    c.width-width.ensures.value c.rows-row-items.ensures.value full c.rows.invariant c.from_vec.ensures in
    subst (λ width. All (HasWidth width) c.from_vec.result) (sym c.width-width.ensures.value)
    (All-same (HasWidth f.width) c.from_vec.result (reading params f).rows rows
    (All-append (HasWidth f.width) (unit_rows f.width 0 params) f.rows (widths_unit_rows f.width 0 params)
    (subst (λ (rs : List Affine). All (HasWidth f.width) rs) c.rows-row-items.ensures.value c.rows-row-items.ensures.widths)))

pub returns-clause-meaning : goal.returns-clause-meaning
returns-clause-meaning c = λ z there.
    let f = c.args.f.now in
    let params = c.args.params in
    let full : c.rows.row-index ≡ length c.rows-row-items.result.now = omega arith in
    let is : c.new.result ≡ reading params f = c.new.ensures
    ∙ map_is (reading params f) _ _ c.width-width.ensures.value
    (made c.width-width.result f.width params c.rows.row-index f.rows c.rows-row-items.result.now c.rows.rows.items c.from_vec.result
    c.width-width.ensures.value c.rows-row-items.ensures.value full c.rows.invariant c.from_vec.ensures) in
    ap (λ (g : AffineMap). image_of g z) is ∙ image_of-reading params f z c.requires.inside there
