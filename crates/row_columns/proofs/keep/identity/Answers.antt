use Rattle.std.proofs.Common.{◌≡◌, ◌++◌, ◌∙◌, arith, ap, List, refl}
use Rattle.std.proofs.lemmas.List.{take_all}
use Rattle.std.proofs.lemmas.List.Elements.{All-same}
use Rattle.az_lin.specs.Affine.{Affine, AffineMap, HasWidth, image_of}
use Rattle.az_lin.specs.Columns.{unit_rows, identity}
use Rattle.az_lin.proofs.Columns.{image_of-identity}
use Rattle.az_lin.proofs.Substitution.{map_is}
use Rattle.row_columns.proofs.Made.{widths_unit_rows}
use Rattle.row_columns.proofs.keep.identity.Goals as goal

pub new-requires : goal.new-requires
new-requires c =
    let width = c.args.width in
    All-same (HasWidth width) c.from_vec.result (unit_rows width 0 width)
    (c.from_vec.ensures ∙ c.in_ok-push_unit_rows.ensures.ok ∙ ap (λ (rows : List Affine). rows ++ unit_rows width 0 width) c.in_ok-rows.ensures.items)
    (widths_unit_rows width 0 width)

pub returns-clause-meaning : goal.returns-clause-meaning
returns-clause-meaning c = λ z long.
    let width = c.args.width in
    let is : c.new.result ≡ identity width = c.new.ensures
    ∙ map_is (identity width) _ _ refl (c.from_vec.ensures ∙ c.in_ok-push_unit_rows.ensures.ok ∙ ap (λ (rows : List Affine). rows ++ unit_rows width 0 width) c.in_ok-rows.ensures.items) in
    ap (λ (f : AffineMap). image_of f z) is ∙ image_of-identity width z (omega arith) ∙ take_all width z (omega arith)
