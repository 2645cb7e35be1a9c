-- What the inversion of a map answers.
use Rattle.std.specs.Prelude.{◌≡◌, ◌≢◌, ◌<◌, ◌*◌, ◌^◌, ℕ, zero, suc, List, [], ◌∷◌, length, take, drop, map, All, ℤ, pos, unsigned_abs, ◌*ℤ◌, ◌<ℤ◌, Result, Ok, Err}
use Rattle.az_lin.specs.Affine.{Affine, AffineMap, IsWide, dot}
use Rattle.az_lin.specs.CommonDivisor.{DividesEach}
use Rattle.az_lin.specs.Substitution.{HasEntryRows}
use Rattle.az_lin.specs.Inversion.{Tableau, start, final, ReducesWide, kernel_vector, inverse_denominator, inverse_numerators, inverse_map}
use Rattle.az_lin.specs.declared.fault.LinFault.{LinFault}
use Rattle.az_lin.specs.declared.fault.LinFault.TheVariants.{Entry, NoInverse, Overflow, Memory}
use Rattle.az_lin.specs.declared.fault.NoInverse.TheVariants.{Kernel, Rational}
use Prim.Native.Nat.{◌∣◌}

-- the numbers that are read off at the end are in range: those of the kernel vector where a row is left, and else the
-- denominator and the numerators
abbrev pub EndsWide : ℕ → Tableau → List Affine → Type 0
EndsWide n t [] = (inverse_denominator n t < 2 ^ 127) × All IsWide (inverse_numerators n t)
EndsWide n t (row ∷ rows) = All IsWide (kernel_vector n t)

-- the whole inversion is in range
pub record InvertsWide (params : ℕ) (f : AffineMap) : Type 0 where
  pub steps : ReducesWide (length f.rows) (start params f.rows)
  pub ends : EndsWide (length f.rows) (final params f.rows) (final params f.rows).rest

abbrev pub IsWhole : ℕ → AffineMap → Type 0
IsWhole params f = (final params f.rows).rest ≡ []

-- the inverse where it is integral and its entries are in range
abbrev pub IsInversion : ℕ → AffineMap → Result AffineMap LinFault → Type 0
IsInversion params f (Ok inverse) =
    InvertsWide params f × IsWhole params f × (inverse_denominator (length f.rows) (final params f.rows) ≡ 1) × (inverse ≡ inverse_map params f) × HasEntryRows inverse
IsInversion params f (Err Entry) =
    InvertsWide params f × IsWhole params f × (inverse_denominator (length f.rows) (final params f.rows) ≡ 1) × ¬ HasEntryRows (inverse_map params f)
IsInversion params f (Err (NoInverse (Kernel vector))) =
    InvertsWide params f × (¬ IsWhole params f) × (vector ≡ kernel_vector (length f.rows) (final params f.rows))
IsInversion params f (Err (NoInverse (Rational nums den))) =
    InvertsWide params f × IsWhole params f × (inverse_denominator (length f.rows) (final params f.rows) ≢ 1)
    × (den ≡ pos (inverse_denominator (length f.rows) (final params f.rows))) × (nums ≡ inverse_numerators (length f.rows) (final params f.rows))
IsInversion params f (Err Overflow) = ¬ InvertsWide params f
IsInversion params f (Err Memory) = Unit {0}

-- the image of the index part
abbrev pub index_image : ℕ → List Affine → List ℤ → List ℤ
index_image params rows z = map (λ row. dot (drop params row.coefs) z) rows

-- so many rows of n numbers, which stand one after the other in a list, each times a vector
abbrev pub rows_times : ℕ → ℕ → List ℤ → List ℤ → List ℤ
rows_times n zero numbers w = []
rows_times n (suc k) numbers w = dot (take n numbers) w ∷ rows_times n k (drop n numbers) w

-- where a refusal has the rational inverse, its numbers take each image of the index part back to the point, times the
-- denominator, which is above 1
abbrev pub TakesBack : ℕ → AffineMap → List ℤ → LinFault → Type 0
TakesBack params f z (NoInverse (Rational nums den)) =
    (pos 1 <ℤ den) × (rows_times (length f.rows) (length f.rows) nums (index_image params f.rows z) ≡ map (λ x. den *ℤ x) z)
TakesBack params f z (NoInverse (Kernel vector)) = Unit {0}
TakesBack params f z Entry = Unit {0}
TakesBack params f z Overflow = Unit {0}
TakesBack params f z Memory = Unit {0}

-- and the denominator is the least: each number that brings all the fractions to whole numbers is a multiple of it;
-- a vector that goes to zero is the shortest whole one in its direction: its numbers have no common divisor but 1
abbrev pub HasLeast : LinFault → Type 0
HasLeast (NoInverse (Rational nums den)) = (m : ℕ) → All (λ x. unsigned_abs den ∣ m * unsigned_abs x) nums → unsigned_abs den ∣ m
HasLeast (NoInverse (Kernel vector)) = (d : ℕ) → DividesEach d vector → d ∣ 1
HasLeast Entry = Unit {0}
HasLeast Overflow = Unit {0}
HasLeast Memory = Unit {0}

-- a vector that isn't 0 and that the index part maps to 0
pub record IsKernel (params : ℕ) (f : AffineMap) (vector : List ℤ) : Type 0 where
  pub length_is : length vector ≡ length f.rows
  pub nonzero : All (λ x. x ≡ pos 0) vector → ⊥
  pub image : All (λ x. x ≡ pos 0) (index_image params f.rows vector)

abbrev pub GoesToZero : ℕ → AffineMap → LinFault → Type 0
GoesToZero params f (NoInverse (Kernel vector)) = IsKernel params f vector
GoesToZero params f (NoInverse (Rational nums den)) = Unit {0}
GoesToZero params f Entry = Unit {0}
GoesToZero params f Overflow = Unit {0}
GoesToZero params f Memory = Unit {0}
