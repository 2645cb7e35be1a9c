use Rattle.std.proofs.Common.{◌≡◌, ◌<◌, length, arith, pos, get_or, slice_index_or, to_z, sym, ap, ◌∙◌}
use Rattle.std.specs.Int.{w128}
use Rattle.std.proofs.lemmas.List.{get_or-map, length-map}
use Rattle.std.proofs.lemmas.List.Elements.{All-get_or}
use Rattle.az_lin.specs.Affine.{IsEntry}
use Rattle.az_lin.specs.Substitution.{entry_at, entries}
use Rattle.az_lin.proofs.Dot.{product_fits, sum_fits, word_sum_is, sum_stays_small, dot-step}
use Rattle.az_lin.proofs.place.sum_at.Goals as goal

pub overflow_mul-sum : goal.overflow_mul-sum
overflow_mul-sum c =
    product_fits (slice_index_or c.args.weights.now c.rows.number (pos 0)) c.entry.result
    (All-get_or IsEntry c.args.weights.now c.rows.number (pos 0) c.rows-test.true c.requires.range)
    c.entry.ensures.range

pub overflow_add-sum : goal.overflow_add-sum
overflow_add-sum c =
    sum_fits c.rows.number (to_z w128 c.rows.sum-bits) (slice_index_or c.args.weights.now c.rows.number (pos 0)) c.entry.result
    (omega arith) c.rows.invariant.small
    (All-get_or IsEntry c.args.weights.now c.rows.number (pos 0) c.rows-test.true c.requires.range)
    c.entry.ensures.range

pub rows-preserved : goal.rows-preserved
rows-preserved c =
    let here : c.rows.number < length c.args.rows.now = omega arith in
    let there : c.rows.number < length (entries c.args.place c.args.rows.now) = rw length-map here in
    let sum = to_z w128 c.rows.sum-bits in
    let x = slice_index_or c.args.weights.now c.rows.number (pos 0) in
    let y = c.entry.result in
    let p = All-get_or IsEntry c.args.weights.now c.rows.number (pos 0) c.rows-test.true c.requires.range in
    let q = c.entry.ensures.range in
    let same : get_or (entries c.args.place c.args.rows.now) c.rows.number (pos 0) ≡ y =
    get_or-map (entry_at c.args.place) c.args.rows.now c.rows.number c.index-rows-number.result (pos 0) here
    ∙ ap (entry_at c.args.place) (sym c.index-rows-number.is) ∙ sym c.entry.ensures.value in
    let sum_is = word_sum_is c.rows.number sum x y (omega arith) c.rows.invariant.small p q in
    record {
      whole = rw (sum_is, ← same) (dot-step c.args.weights.now (entries c.args.place c.args.rows.now) c.rows.number sum _ c.rows-test.true there c.rows.invariant.whole);
      small = rw sum_is (sum_stays_small c.rows.number sum x y c.rows.invariant.small p q);
    }
