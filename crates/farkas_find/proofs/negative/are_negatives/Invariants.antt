use Rattle.std.proofs.Common.{◌≡◌, drop, neg_ℤ}
use Rattle.std.specs.Ordering.{int_eq}
use Rattle.std.specs.Cmp.Lexicographic.{pointwise}
use Rattle.farkas_find.proofs.negative.are_negatives.Given as goal

-- the answer is that for the columns to come
abbrev pub invariant-columns : goal.invariant-columns
invariant-columns l = pointwise (λ x y. int_eq x (neg_ℤ y)) (drop l.column l.numbers) (drop l.column l.others) ≡ pointwise (λ x y. int_eq x (neg_ℤ y)) l.numbers l.others
