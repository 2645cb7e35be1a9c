use Rattle.std.proofs.Common.{length, ◌∙◌, sym, map}
use Rattle.std.specs.List.{filter, range_with_len}
use Rattle.farkas_find.specs.Combining.{partner, is_other}
use Rattle.farkas_find.proofs.Places.{gives_yes, gives_no}
use Rattle.farkas_find.proofs.pairs.pairs_with.Goals as goal
use Rattle.farkas_find.proofs.pairs.pairs_with.Goals.{then-is_other+in_ok-push, else-is_other}

pub places-preserved : goal.places-preserved
places-preserved c =
    let rows = c.args.rows.now in
    let give = partner c.args.column c.args.chosen.now rows in
    let test = is_other c.args.column c.args.chosen.now rows in
    let whole = map give (filter test (range_with_len 0 (length rows))) in
    elim c.if-is_other.branch [
      | then-is_other+in_ok-push w ↦ rw (w.pairs-is, w.in_ok-push.ensures.items, w.partner.ensures) (gives_yes give test c.places.pairs.items whole c.places.place (length rows) c.places-test.true (sym c.is_other.ensures ∙ w.if-is_other.true) c.places.invariant)
      | else-is_other w ↦ rw w.pairs-is (gives_no give test c.places.pairs.items whole c.places.place (length rows) c.places-test.true (sym c.is_other.ensures ∙ w.if-is_other.false) c.places.invariant)
    ]
