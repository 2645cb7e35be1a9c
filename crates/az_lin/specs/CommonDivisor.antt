-- The greatest common divisor: it divides each of the numbers, and each number that divides them all divides it.
-- Of whole numbers the magnitudes count, and where all of them are 0 it is 0.
use Rattle.std.specs.Prelude.{ℕ, zero, suc, ◌%◌, List, [], ◌∷◌, All, ℤ, unsigned_abs}
use Prim.Native.Nat.{◌∣◌}

abbrev pub DividesEach : ℕ → List ℤ → Type 0
DividesEach d zs = All (λ z. d ∣ unsigned_abs z) zs

pub record IsGcdOfAll (zs : List ℤ) (g : ℕ) : Type 0 where
  pub divides : DividesEach g zs
  pub greatest : (d : ℕ) → DividesEach d zs → d ∣ g

-- Euclid's remainders, at most as many as the first number says
unfoldable pub last_divisor : ℕ → ℕ → ℕ → ℕ
last_divisor zero a b = a
last_divisor (suc turns) a zero = a
last_divisor (suc turns) a (suc b) = last_divisor turns (suc b) (a % suc b)

-- the number that `IsGcd` pins, and for a list the one that `IsGcdOfAll` pins
unfoldable pub gcd_of : ℕ → ℕ → ℕ
gcd_of a b = last_divisor b a b

abbrev pub gcd_of_all : List ℤ → ℕ
gcd_of_all [] = 0
gcd_of_all (z ∷ zs) = gcd_of (unsigned_abs z) (gcd_of_all zs)
