use Rattle.std.proofs.Common.{◌≡◌, arith, length, ap, sym, ◌∙◌, None}
use Rattle.std.proofs.lemmas.List.FromFn.{length-map-range_with_len, get_or-map-range_with_len}
use Rattle.farkas_find.specs.Choosing.{negative_place, pair_at}
use Rattle.farkas_find.proofs.Firsts.{none_of, first_of-past}
use Rattle.farkas_find.proofs.choose.pair_in.Goals as goal

pub bounds-negatives-place : goal.bounds-negatives-place
bounds-negatives-place c =
    let many : length c.args.negatives.now ≡ length c.args.rows.now = ap length c.requires.negatives ∙ length-map-range_with_len (negative_place c.args.rows.now) 0 (length c.args.rows.now) in
    omega arith

pub pair_at-pair-requires-clause-negative : goal.pair_at-pair-requires-clause-negative
pair_at-pair-requires-clause-negative c =
    rw c.requires.negatives (get_or-map-range_with_len (negative_place c.args.rows.now) 0 (length c.args.rows.now) c.places.place c.places.place None c.places-test.true (omega arith))

pub places-preserved : goal.places-preserved
places-preserved c =
    let none : pair_at c.args.column c.args.rows.now c.places.place ≡ None = sym c.pair_at-pair.ensures ∙ none_of c.pair_at-pair.result (sym c.is_some.ensures ∙ c.if-is_some.false) in
    sym (first_of-past (pair_at c.args.column c.args.rows.now) c.places.place (length c.args.rows.now) c.places-test.true none) ∙ c.places.invariant
