use Rattle.std.proofs.Common.{◌<◌, length, get_or, pos, SFits, to_z-of_z, rules, arith}
use Rattle.std.proofs.lemmas.List.Elements.{AllZip-get_or}
use Rattle.std.specs.Int.{w128}
use Rattle.az_lin.specs.Combination.{IsWideSum}
use Rattle.az_lin.proofs.WideSums.{scaled_sums-more, AllZip-drop}
use Rattle.az_lin.proofs.scaled_sum.sums_of_scaled.Goals as goal

pub returns-in_default : goal.returns-in_default
returns-in_default c = λ all.
    let here : c.columns.column < length c.args.right.now = omega arith in
    let left_fits : SFits w128 (get_or c.args.left.now c.columns.column (pos 0)) = search rules in
    let right_fits : SFits w128 (get_or c.args.right.now c.columns.column (pos 0)) = search rules in
    let none = simp to_z-of_z at c.in_default.ensures in
    none (AllZip-get_or (λ x y. IsWideSum c.args.weights.now.a x c.args.weights.now.b y) c.args.left.now c.args.right.now c.columns.column (pos 0) (pos 0) all c.columns-test.true)

pub columns-preserved : goal.columns-preserved
columns-preserved c =
    let here : c.columns.column < length c.args.right.now = omega arith in
    let left_fits : SFits w128 (get_or c.args.left.now c.columns.column (pos 0)) = search rules in
    let right_fits : SFits w128 (get_or c.args.right.now c.columns.column (pos 0)) = search rules in
    let sum_fits : SFits w128 c.in-Some.sum = search rules in
    let is = simp to_z-of_z at c.in-Some.ensures in
    record {
      whole = scaled_sums-more c.args.weights.now.a c.args.left.now c.args.weights.now.b c.args.right.now c.columns.column c.columns.sums.items c.push.new.self.items _ c.in-Some.sum
          c.columns-test.true here c.columns.invariant.whole (simp to_z-of_z at c.in_ok-push.ensures.ok) is.1;
      fits = λ rest. c.columns.invariant.fits (AllZip-drop (λ x y. IsWideSum c.args.weights.now.a x c.args.weights.now.b y) c.args.left.now c.args.right.now c.columns.column c.columns-test.true here is.0 rest);
    }
