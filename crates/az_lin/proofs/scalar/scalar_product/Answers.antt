use Rattle.std.proofs.Common.{◌<◌, length, arith, pos, slice_index_or, to_z}
use Rattle.std.specs.Int.{w128}
use Rattle.std.proofs.lemmas.List.Elements.{All-get_or}
use Rattle.az_lin.specs.Affine.{IsEntry}
use Rattle.az_lin.proofs.Dot.{product_fits, sum_fits, word_sum_is, sum_stays_small, dot-step}
use Rattle.az_lin.proofs.scalar.scalar_product.Goals as goal

pub overflow_mul-sum : goal.overflow_mul-sum
overflow_mul-sum c =
    let here : c.columns.column < length c.args.right.now = omega arith in
    product_fits (slice_index_or c.args.left.now c.columns.column (pos 0)) (slice_index_or c.args.right.now c.columns.column (pos 0))
    (All-get_or IsEntry c.args.left.now c.columns.column (pos 0) c.columns-test.true c.requires.left_range)
    (All-get_or IsEntry c.args.right.now c.columns.column (pos 0) here c.requires.right_range)

pub overflow_add-sum : goal.overflow_add-sum
overflow_add-sum c =
    let here : c.columns.column < length c.args.right.now = omega arith in
    sum_fits c.columns.column (to_z w128 c.columns.sum-bits) (slice_index_or c.args.left.now c.columns.column (pos 0)) (slice_index_or c.args.right.now c.columns.column (pos 0))
    (omega arith) c.columns.invariant.small
    (All-get_or IsEntry c.args.left.now c.columns.column (pos 0) c.columns-test.true c.requires.left_range)
    (All-get_or IsEntry c.args.right.now c.columns.column (pos 0) here c.requires.right_range)

pub columns-preserved : goal.columns-preserved
columns-preserved c =
    let here : c.columns.column < length c.args.right.now = omega arith in
    let sum = to_z w128 c.columns.sum-bits in
    let x = slice_index_or c.args.left.now c.columns.column (pos 0) in
    let y = slice_index_or c.args.right.now c.columns.column (pos 0) in
    let p = All-get_or IsEntry c.args.left.now c.columns.column (pos 0) c.columns-test.true c.requires.left_range in
    let q = All-get_or IsEntry c.args.right.now c.columns.column (pos 0) here c.requires.right_range in
    let sum_is = word_sum_is c.columns.column sum x y (omega arith) c.columns.invariant.small p q in
    record {
      whole = rw sum_is (dot-step c.args.left.now c.args.right.now c.columns.column sum _ c.columns-test.true here c.columns.invariant.whole);
      small = rw sum_is (sum_stays_small c.columns.column sum x y c.columns.invariant.small p q);
    }
