use Rattle.std.proofs.Common.{◌≡◌, subst, map, length, List}
use Rattle.std.proofs.lemmas.List.Elements.{All-map}
use Rattle.az_lin.specs.Affine.{Affine}
use Rattle.farkas_find.specs.Rows.{affine_of}
use Rattle.farkas_find.specs.Answers.{HoldsIn, HasOnly}
use Rattle.farkas_find.specs.Remaining.{KeepsWidth}
use Rattle.farkas_find.specs.declared.left.Left.{Left}
use Rattle.farkas_find.specs.declared.wide.WideRow.{WideRow}
use Rattle.loop_scan.specs.Boxes.{IsRangeOf}
use Rattle.loop_scan.proofs.Indices.{range_holds}
use Rattle.loop_scan.proofs.index_range.index_range.Goals as goal

pub returns-in-Some-clause-sound : goal.returns-in-Some-clause-sound
returns-in-Some-clause-sound c = λ z e h.
    let width = c.args.system.now.width in
    let column = c.args.column in
    let rows = c.in-Ok-Rows.rows in
    let left = c.in-Ok-Rows.field-0-is in
    let hold = subst (λ (l : Left). HoldsIn z l) left (c.in-Ok-Rows.ensures.sound z h) in
    let alone = subst (λ (l : Left). HasOnly width column l) left c.in-Ok-Rows.ensures.alone in
    let wide = subst (λ (l : Left). KeepsWidth width l) left c.in-Ok-Rows.ensures.widths in
    let is = subst (λ (xs : List WideRow). IsRangeOf column (map affine_of xs) c.in-Some.range) c.as_slice.ensures c.in-Some.ensures in
    let wides = All-map (λ (row : Affine). length row.coefs ≡ width) affine_of rows wide in
    range_holds width column z c.requires.inside e (map affine_of rows) c.in-Some.range wides alone hold is
