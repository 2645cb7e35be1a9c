use Rattle.std.proofs.Common.{◌≡◌, ◌+◌, ◌++◌, ◌∙◌, arith, ap, subst, sym, map, List, All, ℕ}
use Rattle.std.proofs.lemmas.List.Elements.{All-same, All-append}
use Rattle.az_lin.specs.Affine.{Affine, AffineMap, HasWidth, image_of}
use Rattle.az_lin.specs.Columns.{widened, unit_rows, extended}
use Rattle.az_lin.proofs.Columns.{image_of-extended}
use Rattle.az_lin.proofs.Substitution.{map_is}
use Rattle.row_columns.proofs.Made.{widths_widened, widths_unit_rows}
use Rattle.row_columns.proofs.keep.extended.Goals as goal

made : (width own count : ℕ) (rows all done next got : List Affine) → width ≡ own → all ≡ rows → done ≡ map (λ row. widened width count row) all
    → next ≡ done ++ unit_rows (width + count) width count → got ≡ next → got ≡ (extended count (record { width = own; rows = rows })).rows
made width own count rows all done next got same same' wide pushed is =
    is ∙ pushed ∙ ap (λ (rs : List Affine). rs ++ unit_rows (width + count) width count) (wide ∙ ap (map (λ row. widened width count row)) same')
    ∙ ap (λ w. map (λ row. widened w count row) rows ++ unit_rows (w + count) w count) same

pub new-requires : goal.new-requires
new-requires c =
    let f = c.args.f.now in
    let count = c.args.count in
    let wide = map (λ row. widened f.width count row) f.rows in
    let rows : c.from_vec.result ≡ (extended count f).rows =
    made c.width-width.result f.width count f.rows c.rows.result.now c.into_vec-rows.result.items c.push_unit_rows.new.rows.items c.from_vec.result
    c.width-width.ensures.value c.rows.ensures.value (c.into_vec-rows.ensures ∙ c.in_ok-widened_rows.ensures.ok) c.in_ok-push_unit_rows.ensures.ok c.from_vec.ensures in
    subst (λ width. All (HasWidth (width + count)) c.from_vec.result) (sym c.width-width.ensures.value)
    (All-same (HasWidth (f.width + count)) c.from_vec.result (extended count f).rows rows
    (All-append (HasWidth (f.width + count)) wide (unit_rows (f.width + count) f.width count)
    (widths_widened f.width count f.width f.rows (omega arith) (subst (λ (rs : List Affine). All (HasWidth f.width) rs) c.rows.ensures.value c.rows.ensures.widths))
    (widths_unit_rows (f.width + count) f.width count)))

pub returns-clause-meaning : goal.returns-clause-meaning
returns-clause-meaning c = λ z long.
    let f = c.args.f.now in
    let count = c.args.count in
    let is : c.new.result ≡ extended count f = c.new.ensures
    ∙ map_is (extended count f) _ _ (ap (λ w. w + count) c.width-width.ensures.value)
    (made c.width-width.result f.width count f.rows c.rows.result.now c.into_vec-rows.result.items c.push_unit_rows.new.rows.items c.from_vec.result
    c.width-width.ensures.value c.rows.ensures.value (c.into_vec-rows.ensures ∙ c.in_ok-widened_rows.ensures.ok) c.in_ok-push_unit_rows.ensures.ok c.from_vec.ensures) in
    ap (λ (g : AffineMap). image_of g z) is ∙ image_of-extended count f z long
