use Rattle.std.proofs.Common.{◌≡◌, ◌<◌, ◌∙◌, List, ap, sym, subst, length, map, get_or, take, arith}
use Rattle.std.proofs.lemmas.List.{get_or-map, length-map, take_all}
use Rattle.std.proofs.lemmas.List.Elements.{All-nil, All-more}
use Rattle.std.specs.Prelude.{All}
use Rattle.az_lin.specs.Affine.{Affine}
use Rattle.az_lin.specs.Combination.{HasWideEntries}
use Rattle.farkas_find.proofs.Numbering.{numbered_from-nil, numbers_next}
use Rattle.farkas_find.proofs.first_rows.numbered.Goals as goal

pub rows-init : goal.rows-init
rows-init g c = record { numbered = c.in_ok-numbered.ensures.items ∙ sym (numbered_from-nil 0); range = All-nil HasWideEntries }

pub rows-preserved : goal.rows-preserved
rows-preserved g c =
    let affine = g.G.GivenRow.affine in
    let rows = c.args.rows.now in
    let place = c.rows.place in
    let all : List Affine = map affine rows in
    let row : Affine = c.in_ok-row.row in
    let given = c.index-rows-place.result in
    let here : place < length all = rw (length-map rows affine) c.rows-test.true in
    let there : affine given ≡ get_or all place row = ap affine c.index-rows-place.is ∙ sym (get_or-map affine rows place given row c.rows-test.true) in
    record {
      numbered = c.in_ok-push.ensures.items ∙ numbers_next place all row c.rows.numbered.items here (c.in_ok-row.ensures.ok ∙ there) c.rows.invariant.numbered;
      range = All-more HasWideEntries all place row here c.rows.invariant.range (subst HasWideEntries there c.in_ok-row.ensures.range);
    }
