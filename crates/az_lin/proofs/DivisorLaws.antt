-- The law that pins the greatest common divisor, and that Euclid's remainders come to it.
use Rattle.std.proofs.Common.{◌≡◌, ℕ, zero, suc, ◌+◌, ◌%◌, ◌<◌, ◌≤◌, arith, refl, sym, subst, List, [], ◌∷◌, ◌++◌, length, take, get_or, ℤ, pos, unsigned_abs}
use Rattle.std.proofs.lemmas.Nat.Gcd.{IsGcd-from_zero, IsGcd-from_mod, dvd_trans, dvd-zero, dvd_antisymm}
use Rattle.std.proofs.lemmas.Nat.{mod_below}
use Rattle.std.proofs.lemmas.List.{take_more, take_all}
use Rattle.std.proofs.lemmas.List.Elements.{All-nil, All-cons, All-head, All-tail, All-push}
use Rattle.std.specs.Int.{IsGcd}
use Rattle.az_lin.specs.CommonDivisor.{DividesEach, IsGcdOfAll, last_divisor, gcd_of, gcd_of_all}
use Prim.Native.Nat.{◌∣◌}

last_divisor-is_gcd : (turns a b : ℕ) → b ≤ turns → IsGcd a b (last_divisor turns a b)
unfolding last_divisor
last_divisor-is_gcd zero a b h = IsGcd-from_zero a b (omega arith)
last_divisor-is_gcd (suc turns) a zero h = IsGcd-from_zero a zero refl
last_divisor-is_gcd (suc turns) a (suc b) h =
    let fewer : a % suc b < suc b = mod_below a (suc b) (omega arith) in
    IsGcd-from_mod a (suc b) (last_divisor turns (suc b) (a % suc b)) (last_divisor-is_gcd turns (suc b) (a % suc b) (omega arith))

pub gcd_of-is_gcd : (a b : ℕ) → IsGcd a b (gcd_of a b)
unfolding gcd_of
gcd_of-is_gcd a b = last_divisor-is_gcd b a b (omega arith)

pub IsGcdOfAll-nil : IsGcdOfAll [] 0
IsGcdOfAll-nil = record { divides = All-nil (λ z. 0 ∣ unsigned_abs z); greatest = λ d _. dvd-zero d }

DividesEach-front : (d : ℕ) (zs : List ℤ) (z : ℤ) → DividesEach d (zs ++ z ∷ []) → DividesEach d zs
DividesEach-front d [] z all = All-nil (λ y. d ∣ unsigned_abs y)
DividesEach-front d (y ∷ zs) z all =
    All-cons (λ y. d ∣ unsigned_abs y) y zs (All-head (λ y. d ∣ unsigned_abs y) y (zs ++ z ∷ []) all)
    (DividesEach-front d zs z (All-tail (λ y. d ∣ unsigned_abs y) y (zs ++ z ∷ []) all))

DividesEach-last : (d : ℕ) (zs : List ℤ) (z : ℤ) → DividesEach d (zs ++ z ∷ []) → d ∣ unsigned_abs z
DividesEach-last d [] z all = All-head (λ y. d ∣ unsigned_abs y) z [] all
DividesEach-last d (y ∷ zs) z all = DividesEach-last d zs z (All-tail (λ y. d ∣ unsigned_abs y) y (zs ++ z ∷ []) all)

-- one more number
pub IsGcdOfAll-cons : (z : ℤ) (zs : List ℤ) (g k : ℕ) → IsGcdOfAll zs g → IsGcd (unsigned_abs z) g k → IsGcdOfAll (z ∷ zs) k
IsGcdOfAll-cons z zs g k rest step = record {
  divides = All-cons (λ y. k ∣ unsigned_abs y) z zs step.0 (λ i d h. dvd_trans k step.1 (rest.divides i d h));
  greatest = λ d all. step.2 d (All-head (λ y. d ∣ unsigned_abs y) z zs all) (rest.greatest d (All-tail (λ y. d ∣ unsigned_abs y) z zs all));
}

pub IsGcdOfAll-push : (zs : List ℤ) (z : ℤ) (g k : ℕ) → IsGcdOfAll zs g → IsGcd g (unsigned_abs z) k → IsGcdOfAll (zs ++ z ∷ []) k
IsGcdOfAll-push zs z g k front step = record {
  divides = All-push (λ y. k ∣ unsigned_abs y) zs z (λ i d h. dvd_trans k step.0 (front.divides i d h)) step.1;
  greatest = λ d all. step.2 d (front.greatest d (DividesEach-front d zs z all)) (DividesEach-last d zs z all);
}

pub gcd_of_all-is_gcd : (zs : List ℤ) → IsGcdOfAll zs (gcd_of_all zs)
gcd_of_all-is_gcd [] = IsGcdOfAll-nil
gcd_of_all-is_gcd (z ∷ zs) =
    IsGcdOfAll-cons z zs (gcd_of_all zs) (gcd_of (unsigned_abs z) (gcd_of_all zs)) (gcd_of_all-is_gcd zs) (gcd_of-is_gcd (unsigned_abs z) (gcd_of_all zs))

-- there is one such number
pub same_from_IsGcdOfAll : (zs : List ℤ) (g k : ℕ) → IsGcdOfAll zs g → IsGcdOfAll zs k → g ≡ k
same_from_IsGcdOfAll zs g k p q = dvd_antisymm (q.greatest g p.divides) (p.greatest k q.divides)

pub IsGcdOfAll-more : (zs : List ℤ) (i n g k : ℕ) → i < length zs → IsGcdOfAll (take i zs) g
    → n ≡ unsigned_abs (get_or zs i (pos 0)) → IsGcd g n k → IsGcdOfAll (take (i + 1) zs) k
IsGcdOfAll-more zs i n g k here front same step =
    let P : List ℤ → Type 0 = λ ys. IsGcdOfAll ys k in
    let Q : ℕ → Type 0 = λ m. IsGcd g m k in
    subst P (sym (take_more zs i (pos 0) here)) (IsGcdOfAll-push (take i zs) (get_or zs i (pos 0)) g k front (subst Q same step))

pub IsGcdOfAll-all : (zs : List ℤ) (i g : ℕ) → length zs ≤ i → IsGcdOfAll (take i zs) g → IsGcdOfAll zs g
IsGcdOfAll-all zs i g past front = let P : List ℤ → Type 0 = λ ys. IsGcdOfAll ys g in subst P (take_all i zs past) front
