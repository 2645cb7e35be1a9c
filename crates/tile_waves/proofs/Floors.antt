-- Tiles of a band: floors rise with the coordinates, and so do their totals.
use Rattle.std.proofs.Common.{◌≡◌, ⊎_elim, ℕ, suc, ◌/◌, ◌≤◌, zero, List, [], ◌∷◌, length, refl, ap, ◌∙◌, arith, div-one, div-mul-le_self, le_trans}
use Rattle.std.specs.Prelude.{ℤ, pos, negsuc, ◌≤ℤ◌, ◌<ℤ◌}
use Rattle.std.specs.Int.{int_div_euclid}
use Rattle.std.proofs.Math.Nat.{div-zero}
use Rattle.std.proofs.lemmas.Int.{ints}
use Rattle.std.proofs.lemmas.Nat.{le-div}
use Rattle.target_map.specs.Before.{NoneExceeds, SomeUnitLess}
use Rattle.tile_waves.specs.Keys.{floors, total}

div-mono : (a b k : ℕ) → a ≤ b → a / k ≤ b / k
div-mono a b zero l = let e = div-zero a in omega (arith, e)
div-mono a b (suc k) l = le-div (a / suc k) b (suc k) (omega arith) (le_trans (div-mul-le_self a (suc k)) l)

floor_rises : (size : ℕ) (x y : ℤ) → x ≤ℤ y → int_div_euclid x (pos size) ≤ℤ int_div_euclid y (pos size)
floor_rises size (pos a) (pos b) h = let l : a ≤ b = omega (arith, ints, h) in let d : a / size ≤ b / size = div-mono a b size l in omega (arith, ints, d)
floor_rises size (pos a) (negsuc b) h = absurd (omega (arith, ints, h))
floor_rises size (negsuc a) (pos b) h = omega (arith, ints)
floor_rises size (negsuc a) (negsuc b) h = let l : b ≤ a = omega (arith, ints, h) in let d : b / size ≤ a / size = div-mono b a size l in omega (arith, ints, d)

floor_unit : (x : ℤ) → int_div_euclid x (pos 1) ≡ x
floor_unit (pos a) = ap pos (div-one a)
floor_unit (negsuc a) = ap negsuc (div-one a)

pub totals_rise : (sizes : List ℕ) (xs ys : List ℤ) → length xs ≡ length ys → NoneExceeds xs ys → total (floors sizes xs) ≤ℤ total (floors sizes ys)
totals_rise [] xs ys long h = omega (arith, ints)
totals_rise (size ∷ sizes) [] [] long h = omega (arith, ints)
totals_rise (size ∷ sizes) [] (y ∷ ys) long h = absurd (omega (arith, long))
totals_rise (size ∷ sizes) (x ∷ xs) [] long h = absurd (omega (arith, long))
totals_rise (size ∷ sizes) (x ∷ xs) (y ∷ ys) long h =
    let first = floor_rises size x y h.0 in
    let rest = totals_rise sizes xs ys (omega (arith, long)) h.1 in
    omega (arith, ints, first, rest)

pub totals_less : (sizes : List ℕ) (xs ys : List ℤ) → length xs ≡ length ys → NoneExceeds xs ys → SomeUnitLess sizes xs ys → total (floors sizes xs) <ℤ total (floors sizes ys)
totals_less [] xs ys long h some = absurd some
totals_less (size ∷ sizes) [] ys long h some = absurd some
totals_less (size ∷ sizes) (x ∷ xs) [] long h some = absurd some
totals_less (size ∷ sizes) (x ∷ xs) (y ∷ ys) long h some =
    ⊎_elim
    (λ unit.
    let rest = totals_rise sizes xs ys (omega (arith, long)) h.1 in
    let one = ap (λ s. int_div_euclid x (pos s)) unit.0 ∙ floor_unit x in
    let two = ap (λ s. int_div_euclid y (pos s)) unit.0 ∙ floor_unit y in
    omega (arith, ints, unit.1, rest, one, two))
    (λ later.
    let first = floor_rises size x y h.0 in
    let rest = totals_less sizes xs ys (omega (arith, long)) h.1 later in
    omega (arith, ints, first, rest)) some

-- where the totals are equal too, so are the floors
pub same_floors : (sizes : List ℕ) (xs ys : List ℤ) → length xs ≡ length ys → NoneExceeds xs ys → total (floors sizes xs) ≡ total (floors sizes ys) → floors sizes xs ≡ floors sizes ys
same_floors [] xs ys long h same = refl
same_floors (size ∷ sizes) [] [] long h same = refl
same_floors (size ∷ sizes) [] (y ∷ ys) long h same = absurd (omega (arith, long))
same_floors (size ∷ sizes) (x ∷ xs) [] long h same = absurd (omega (arith, long))
same_floors (size ∷ sizes) (x ∷ xs) (y ∷ ys) long h same =
    let first = floor_rises size x y h.0 in
    let rest = totals_rise sizes xs ys (omega (arith, long)) h.1 in
    let one : int_div_euclid x (pos size) ≡ int_div_euclid y (pos size) = omega (arith, ints, first, rest, same) in
    let others : total (floors sizes xs) ≡ total (floors sizes ys) = omega (arith, ints, first, rest, same) in
    let more = same_floors sizes xs ys (omega (arith, long)) h.1 others in
    (λ i. one i ∷ more i)
