-- The inversion of a square map, over unbounded whole numbers: the stated elimination of its index part beside the
-- identity, what is read off at its end, and which numbers on the way have to lie within ±(2^127 - 1).
use Rattle.std.specs.Prelude.{◌≡◌, ℕ, zero, suc, ◌+◌, ◌*◌, ◌-◌, ◌<◌, Bool, true, false, cond, List, [], ◌∷◌, ◌++◌, length, take, drop, All, map, get_or, set, replicate, IsTrue, ◌/◌}
use Rattle.std.specs.Prelude.{ℤ, pos, neg_ℤ, ◌*ℤ◌, unsigned_abs}
use Rattle.std.specs.List.{position_or_len, range_with_len}
use Rattle.std.specs.Int.{int_div_euclid}
use Rattle.az_lin.specs.Affine.{Affine, AffineMap, dot}
use Rattle.az_lin.specs.CommonDivisor.{gcd_of, gcd_of_all}
use Rattle.az_lin.specs.Combination.{combination, IsWideCombination, quotient}
use Rattle.az_lin.specs.Substitution.{column, constants}

-- what a row has in a column, and whether that isn't 0
abbrev pub entry : ℕ → Affine → ℤ
entry j row = get_or row.coefs j (pos 0)

abbrev pub is_positive : ℕ → Bool
is_positive zero = false
is_positive (suc n) = true

abbrev pub reaches : ℕ → Affine → Bool
reaches j row = is_positive (unsigned_abs (entry j row))

-- 1 for the row of zeros, whose entries have no greatest common divisor
abbrev pub at_least_one : ℕ → ℕ
at_least_one zero = 1
at_least_one (suc n) = suc n

abbrev pub primitive : Affine → Affine
primitive row = quotient row (pos (at_least_one (gcd_of_all row.coefs)))

-- the factors of a row and of the pivot row: p/h and -(c/h), with the pivot p, the row's entry c and their divisor h
abbrev pub common : ℤ → ℤ → ℤ
common p c = pos (gcd_of (unsigned_abs p) (unsigned_abs c))

abbrev pub row_factor : ℤ → ℤ → ℤ
row_factor p c = int_div_euclid p (common p c)

abbrev pub pivot_factor : ℤ → ℤ → ℤ
pivot_factor p c = neg_ℤ (int_div_euclid c (common p c))

abbrev pub difference : ℕ → Affine → Affine → Affine
difference j pivot row = combination (row_factor (entry j pivot) (entry j row)) row (pivot_factor (entry j pivot) (entry j row)) pivot

-- a row after the pivot row has cleared the column in it
abbrev pub cleared : ℕ → Affine → Affine → Affine
cleared j pivot row = cond (reaches j row) (primitive (difference j pivot row)) row

abbrev pub ClearsWide : ℕ → Affine → Affine → Type 0
ClearsWide j pivot row = IsTrue (reaches j row)
    → IsWideCombination (row_factor (entry j pivot) (entry j row)) row (pivot_factor (entry j pivot) (entry j row)) pivot

-- the pivot rows in the order of their columns, and the rows not yet used
pub record Tableau : Type 0 where
  pub pivots : List Affine
  pub rest : List Affine

-- the place of the first row with an entry in the column, or the number of rows
abbrev pub place_of : ℕ → List Affine → ℕ
place_of j rows = position_or_len (reaches j) rows

-- a step clears the next column; without a pivot the tableau stays, for good
abbrev pub step_from : ℕ → Tableau → List Affine → Tableau
step_from place t [] = t
step_from place t (pivot ∷ after) = record {
  pivots = map (cleared (length t.pivots) pivot) t.pivots ++ pivot ∷ [];
  rest = map (cleared (length t.pivots) pivot) (take place t.rest ++ after);
}

abbrev pub step : Tableau → Tableau
step t = step_from (place_of (length t.pivots) t.rest) t (drop (place_of (length t.pivots) t.rest) t.rest)

abbrev pub StepsWideFrom : ℕ → Tableau → List Affine → Type 0
StepsWideFrom place t [] = Unit {0}
StepsWideFrom place t (pivot ∷ after) = All (ClearsWide (length t.pivots) pivot) t.pivots × All (ClearsWide (length t.pivots) pivot) (take place t.rest ++ after)

abbrev pub StepsWide : Tableau → Type 0
StepsWide t = StepsWideFrom (place_of (length t.pivots) t.rest) t (drop (place_of (length t.pivots) t.rest) t.rest)

abbrev pub reduced : ℕ → Tableau → Tableau
reduced zero t = t
reduced (suc n) t = reduced n (step t)

abbrev pub ReducesWide : ℕ → Tableau → Type 0
ReducesWide zero t = Unit {0}
ReducesWide (suc n) t = StepsWide t × ReducesWide n (step t)

-- the index part beside the identity, from the row with number k
abbrev pub beside : ℕ → ℕ → ℕ → Affine → Affine
beside params n k row = record { coefs = drop params row.coefs ++ set (replicate n (pos 0)) k (pos 1); konst = pos 0 }

abbrev pub beside_identity : ℕ → ℕ → ℕ → List Affine → List Affine
beside_identity params n k [] = []
beside_identity params n k (row ∷ rows) = beside params n k row ∷ beside_identity params n (suc k) rows

abbrev pub start : ℕ → List Affine → Tableau
start params rows = record { pivots = []; rest = beside_identity params (length rows) 0 rows }

abbrev pub final : ℕ → List Affine → Tableau
final params rows = reduced (length rows) (start params rows)

-- a tableau of n rows, whose rows have n columns of the index part and n of the identity
pub record HasSize (n : ℕ) (t : Tableau) : Type 0 where
  pub pivot_widths : All (λ row. length row.coefs ≡ n + n) t.pivots
  pub rest_widths : All (λ row. length row.coefs ≡ n + n) t.rest
  pub count : length t.pivots + length t.rest ≡ n

-- each row has its pivot in the column of its own number, from the number j
abbrev pub HavePivots : ℕ → List Affine → Type 0
HavePivots j [] = Unit {0}
HavePivots j (row ∷ rows) = (0 < unsigned_abs (entry j row)) × HavePivots (suc j) rows

-- the entries of a row in some columns over its pivot: which number divides them all, and the pivot
abbrev pub columns_of : ℕ → ℕ → Affine → List ℤ
columns_of from count row = take count (drop from row.coefs)

abbrev pub shared : ℤ → List ℤ → ℕ
shared p cs = gcd_of (unsigned_abs p) (gcd_of_all cs)

abbrev pub common_multiple : ℕ → ℕ → ℕ
common_multiple a b = (a / gcd_of a b) * b

-- the least multiple of the known number for which these columns over the pivots are whole, row by row from the number j
abbrev pub denominator_from : ℕ → ℕ → ℕ → ℕ → List Affine → ℕ
denominator_from from count known j [] = known
denominator_from from count known j (row ∷ rows) =
    denominator_from from count (common_multiple known (unsigned_abs (int_div_euclid (entry j row) (pos (shared (entry j row) (columns_of from count row)))))) (suc j) rows

-- the entries over the pivot, in lowest terms, brought over the denominator
abbrev pub over_pivot : ℤ → ℤ → ℕ → List ℤ → List ℤ
over_pivot den p d cs = map (λ c. int_div_euclid c (pos d) *ℤ int_div_euclid den (int_div_euclid p (pos d))) cs

abbrev pub numerators : ℕ → ℕ → ℤ → ℕ → List Affine → List ℤ
numerators from count den j [] = []
numerators from count den j (row ∷ rows) =
    over_pivot den (entry j row) (shared (entry j row) (columns_of from count row)) (columns_of from count row) ++ numerators from count den (suc j) rows

-- a tableau whose last rows have no pivot in the next column: the vector that goes to zero
abbrev pub kernel_number : Tableau → ℕ
kernel_number t = denominator_from (length t.pivots) 1 1 0 t.pivots

abbrev pub kernel_vector : ℕ → Tableau → List ℤ
kernel_vector n t =
    numerators (length t.pivots) 1 (neg_ℤ (pos (kernel_number t))) 0 t.pivots ++ pos (kernel_number t) ∷ replicate (n - suc (length t.pivots)) (pos 0)

-- a tableau without rows left: the rational inverse, row by row
abbrev pub inverse_denominator : ℕ → Tableau → ℕ
inverse_denominator n t = denominator_from n n 1 0 t.pivots

abbrev pub inverse_numerators : ℕ → Tableau → List ℤ
inverse_numerators n t = numerators n n (pos (inverse_denominator n t)) 0 t.pivots

-- the row of the inverse with these numbers of the integral inverse: its value at the parameters and an image is
-- their product with what the image has beyond the parameters' part and the constants
abbrev pub inverse_row : ℕ → List Affine → List ℤ → Affine
inverse_row params rows numbers = record {
  coefs = map (λ j. neg_ℤ (dot numbers (column j rows))) (range_with_len 0 params) ++ numbers;
  konst = neg_ℤ (dot numbers (constants rows));
}

abbrev pub inverse_rows : ℕ → List Affine → ℕ → List ℤ → List Affine
inverse_rows params rows zero numbers = []
inverse_rows params rows (suc k) numbers = inverse_row params rows (take (length rows) numbers) ∷ inverse_rows params rows k (drop (length rows) numbers)

abbrev pub inverse_map : ℕ → AffineMap → AffineMap
inverse_map params f = record { width = f.width; rows = inverse_rows params f.rows (length f.rows) (inverse_numerators (length f.rows) (final params f.rows)) }
