use Rattle.std.proofs.Common.{◌≡◌, ◌++◌, drop, ℤ}
use Rattle.std.specs.List.{AllZip}
use Rattle.az_lin.specs.Combination.{scaled_sums, IsWideSum}
use Rattle.az_lin.proofs.scaled_sum.sums_of_scaled.Given as goal

-- the sums so far and those of the rest make the whole list, which fits if the rest does
abbrev pub invariant-columns : goal.invariant-columns
invariant-columns l =
    let Fits = λ (x : ℤ) (y : ℤ). IsWideSum l.weights.a x l.weights.b y in
    record {
      whole : l.sums.items ++ scaled_sums l.weights.a (drop l.column l.left) l.weights.b (drop l.column l.right) ≡ scaled_sums l.weights.a l.left l.weights.b l.right;
      fits : AllZip Fits (drop l.column l.left) (drop l.column l.right) → AllZip Fits l.left l.right;
    }
