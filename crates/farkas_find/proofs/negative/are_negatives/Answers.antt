use Rattle.std.proofs.Common.{◌≡◌, ◌+◌, ◌<◌, arith, Bool, true, length, get_or, drop, drop-cons, List, ℕ, ℤ, pos, neg_ℤ, sym, ◌∙◌, add-one, refl}
use Rattle.std.specs.Ordering.{int_eq}
use Rattle.std.specs.Cmp.Lexicographic.{pointwise}
use Rattle.farkas_find.proofs.negative.are_negatives.Goals as goal

same_rest : (E : ℤ → ℤ → Bool) (xs ys : List ℤ) (i : ℕ) → i < length xs → i < length ys → E (get_or xs i (pos 0)) (get_or ys i (pos 0)) ≡ true
    → pointwise E (drop (i + 1) xs) (drop (i + 1) ys) ≡ pointwise E (drop i xs) (drop i ys)
same_rest E xs ys i p q here =
    rw (add-one, drop-cons xs i (pos 0) p, drop-cons ys i (pos 0) q, here) refl

pub columns-preserved : goal.columns-preserved
columns-preserved c =
    let inside : c.columns.column < length c.args.others.now = omega arith in
    same_rest (λ x y. int_eq x (neg_ℤ y)) c.args.numbers.now c.args.others.now c.columns.column c.columns-test.true inside (sym c.is_negative_number.ensures ∙ c.if-not-is_negative_number.false) ∙ c.columns.invariant
