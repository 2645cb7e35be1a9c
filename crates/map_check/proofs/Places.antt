-- Two lists side by side, a place further.
use Rattle.std.proofs.Common.{◌≡◌, ℕ, zero, suc, ◌+◌, ◌≤◌, List, [], ◌∷◌, length, take, Some, None, sym, arith}
use Rattle.std.specs.Prelude.{slice_get}
use Rattle.std.specs.List.{AllZip}
use Rattle.std.proofs.lemmas.Option.{slice_get_within, get_or_from_slice_get}
use Rattle.map_verify.proofs.Alongside.{zip_next}

-- a list is no longer than a place at which nothing stands
pub none_past : {A : Type 0} (xs : List A) (i : ℕ) → None ≡ slice_get xs i → length xs ≤ i
none_past [] i none = omega arith
none_past (x ∷ xs) zero none = absurd (cc)
none_past (x ∷ xs) (suc i) none = let rest = none_past xs i none in omega (arith, rest)

-- one more of both, where both have one
pub zip_one : {A B : Type 0} (R : A → B → Type 0) (xs : List A) (ys : List B) (i : ℕ) (x : A) (y : B) → slice_get xs i ≡ Some x → slice_get ys i ≡ Some y → AllZip R (take i xs) (take i ys) → R x y
    → AllZip R (take (i + 1) xs) (take (i + 1) ys)
zip_one R xs ys i x y here there before r =
    zip_next R xs ys i x y (slice_get_within xs i x here) (slice_get_within ys i y there) (sym (get_or_from_slice_get xs i x x here)) (sym (get_or_from_slice_get ys i y y there)) before r
