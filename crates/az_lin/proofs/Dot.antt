-- The scalar product: a step of its sum, in range.
use Rattle.std.proofs.Common.{◌≡◌, ℕ, ◌+◌, ◌*◌, ◌^◌, ◌<◌, ◌≤◌, arith, unsigned_abs, ℤ, pos, ◌+ℤ◌, ◌*ℤ◌, List, [], ◌∷◌, All, length, get_or, drop, FitsSigned, to_z, of_z, add-one}
use Rattle.std.specs.Int.{w128}
use Rattle.std.proofs.lemmas.Int.{ints, to_z-of_z, fits_signed_from_abs}
use Rattle.std.proofs.Math.Seq.{drop-cons}
use Rattle.std.proofs.lemmas.Int.{unsigned_abs-mul}
use Rattle.std.proofs.lemmas.Nat.{mul-le}
use Rattle.std.proofs.lemmas.List.Elements.{All-head, All-tail}
use Rattle.az_lin.specs.Affine.{Affine, IsEntry, IsCoordinate, HasEntries, dot, value_at}
use Rattle.az_lin.proofs.Magnitude.{unsigned_abs-add, product_of_entries}

entry_fits : (a : ℤ) → IsEntry a → FitsSigned w128 a
entry_fits a p = fits_signed_from_abs w128 a (omega arith)

-- the product of two entries that stand in words
pub product_fits : (a b : ℤ) → IsEntry a → IsEntry b → FitsSigned w128 (to_z w128 (of_z w128 a) *ℤ to_z w128 (of_z w128 b))
product_fits a b p q =
    let f = entry_fits a p in
    let g = entry_fits b q in
    let small : unsigned_abs (a *ℤ b) ≤ 2 ^ 120 = product_of_entries a b p q in
    rw (to_z-of_z w128 a f, to_z-of_z w128 b g) (fits_signed_from_abs w128 (a *ℤ b) (omega arith))

pub word_product_is : (a b : ℤ) → IsEntry a → IsEntry b → to_z w128 (of_z w128 (to_z w128 (of_z w128 a) *ℤ to_z w128 (of_z w128 b))) ≡ a *ℤ b
word_product_is a b p q =
    let f = entry_fits a p in
    let g = entry_fits b q in
    let small : unsigned_abs (a *ℤ b) ≤ 2 ^ 120 = product_of_entries a b p q in
    rw (to_z-of_z w128 a f, to_z-of_z w128 b g) (to_z-of_z w128 (a *ℤ b) (fits_signed_from_abs w128 (a *ℤ b) (omega arith)))

pub sum_fits : (k : ℕ) (sum a b : ℤ) → k < 64 → unsigned_abs sum ≤ k * 2 ^ 120 → IsEntry a → IsEntry b
    → FitsSigned w128 (sum +ℤ to_z w128 (of_z w128 (to_z w128 (of_z w128 a) *ℤ to_z w128 (of_z w128 b))))
sum_fits k sum a b short small p q =
    let product : unsigned_abs (a *ℤ b) ≤ 2 ^ 120 = product_of_entries a b p q in
    let both : unsigned_abs (sum +ℤ (a *ℤ b)) ≤ unsigned_abs sum + unsigned_abs (a *ℤ b) = unsigned_abs-add sum (a *ℤ b) in
    rw (word_product_is a b p q) (fits_signed_from_abs w128 (sum +ℤ (a *ℤ b)) (omega arith))

pub word_sum_is : (k : ℕ) (sum a b : ℤ) → k < 64 → unsigned_abs sum ≤ k * 2 ^ 120 → IsEntry a → IsEntry b
    → to_z w128 (of_z w128 (sum +ℤ to_z w128 (of_z w128 (to_z w128 (of_z w128 a) *ℤ to_z w128 (of_z w128 b))))) ≡ sum +ℤ (a *ℤ b)
word_sum_is k sum a b short small p q =
    let product : unsigned_abs (a *ℤ b) ≤ 2 ^ 120 = product_of_entries a b p q in
    let both : unsigned_abs (sum +ℤ (a *ℤ b)) ≤ unsigned_abs sum + unsigned_abs (a *ℤ b) = unsigned_abs-add sum (a *ℤ b) in
    rw (word_product_is a b p q) (to_z-of_z w128 (sum +ℤ (a *ℤ b)) (fits_signed_from_abs w128 (sum +ℤ (a *ℤ b)) (omega arith)))

pub sum_stays_small : (k : ℕ) (sum a b : ℤ) → unsigned_abs sum ≤ k * 2 ^ 120 → IsEntry a → IsEntry b → unsigned_abs (sum +ℤ (a *ℤ b)) ≤ (k + 1) * 2 ^ 120
sum_stays_small k sum a b small p q =
    let product : unsigned_abs (a *ℤ b) ≤ 2 ^ 120 = product_of_entries a b p q in
    let both : unsigned_abs (sum +ℤ (a *ℤ b)) ≤ unsigned_abs sum + unsigned_abs (a *ℤ b) = unsigned_abs-add sum (a *ℤ b) in
    omega arith

-- the product of the rest is the product at the next place, and then that of what follows
pub dot-drop : (xs ys : List ℤ) (i : ℕ) → i < length xs → i < length ys
    → dot (drop i xs) (drop i ys) ≡ (get_or xs i (pos 0) *ℤ get_or ys i (pos 0)) +ℤ dot (drop (i + 1) xs) (drop (i + 1) ys)
dot-drop xs ys i p q = rw (add-one, drop-cons xs i (pos 0) p, drop-cons ys i (pos 0) q)

pub dot-step : (xs ys : List ℤ) (i : ℕ) (sum whole : ℤ) → i < length xs → i < length ys
    → sum +ℤ dot (drop i xs) (drop i ys) ≡ whole
    → (sum +ℤ (get_or xs i (pos 0) *ℤ get_or ys i (pos 0))) +ℤ dot (drop (i + 1) xs) (drop (i + 1) ys) ≡ whole
dot-step xs ys i sum whole p q same = omega (arith, ints, dot-drop xs ys i p q)

-- a value at coordinates leaves room
product_of_coordinate : (a b : ℤ) → IsEntry a → IsCoordinate b → unsigned_abs (a *ℤ b) ≤ 2 ^ 100
product_of_coordinate a b p q =
    rw unsigned_abs-mul (mul-le (unsigned_abs a) (unsigned_abs b) (2 ^ 60) (2 ^ 40) (omega arith) (omega arith))

dot-small : (cs z : List ℤ) → All IsEntry cs → All IsCoordinate z → unsigned_abs (dot cs z) ≤ length z * 2 ^ 100
dot-small [] z p q = omega arith
dot-small (c ∷ cs) [] p q = omega arith
dot-small (c ∷ cs) (x ∷ z) p q =
    let here : unsigned_abs (c *ℤ x) ≤ 2 ^ 100 = product_of_coordinate c x (All-head IsEntry c cs p) (All-head IsCoordinate x z q) in
    let rest : unsigned_abs (dot cs z) ≤ length z * 2 ^ 100 = dot-small cs z (All-tail IsEntry c cs p) (All-tail IsCoordinate x z q) in
    let both : unsigned_abs ((c *ℤ x) +ℤ dot cs z) ≤ unsigned_abs (c *ℤ x) + unsigned_abs (dot cs z) = unsigned_abs-add (c *ℤ x) (dot cs z) in
    omega arith

pub value_at-small : (row : Affine) (z : List ℤ) → HasEntries row → length z ≤ 64 → All IsCoordinate z → unsigned_abs (value_at row z) < 2 ^ 107
value_at-small row z entries narrow q =
    let sum : unsigned_abs (dot row.coefs z) ≤ length z * 2 ^ 100 = dot-small row.coefs z entries.coefficients q in
    let constant : unsigned_abs row.konst < 2 ^ 60 = entries.constant in
    let both : unsigned_abs (dot row.coefs z +ℤ row.konst) ≤ unsigned_abs (dot row.coefs z) + unsigned_abs row.konst = unsigned_abs-add (dot row.coefs z) row.konst in
    omega arith
