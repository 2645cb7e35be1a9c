-- Tidying, with which a stage of the elimination begins. Rows carry the numbers by which steps name them.
-- First each row is rounded. Then a contradiction is looked for. Then the rows that say nothing are left out: rows
-- without a coefficient, and of rows with the same coefficients all but the strongest.
use Rattle.std.specs.Prelude.{ℕ, ◌+◌, Bool, not, ◌&&◌, nat_lt, cond, List, [], ◌∷◌, length, map, take, drop, Option}
use Rattle.std.specs.Prelude.{ℤ, pos, int_lt, int_le, slice_index_or}
use Rattle.std.specs.List.{list_any, list_all, position, range_with_len, items_where_true}
use Rattle.std.specs.Ordering.{int_eq}
use Rattle.std.specs.Cmp.Lexicographic.{pointwise}
use Rattle.az_lin.specs.Affine.{Affine}
use Rattle.az_lin.specs.CommonDivisor.{gcd_of_all}
use Rattle.az_lin.specs.Combination.{quotient}
use Rattle.az_lin.specs.declared.step.Step.{Step}
use Rattle.farkas_find.specs.declared.numbered.Numbered.{Numbered}

abbrev pub row_at : List Numbered → ℕ → Numbered
row_at rows place = slice_index_or rows place (record { row = record { coefs = []; konst = pos 0 }; number = 0 })

abbrev pub coef_at : ℕ → Numbered → ℤ
coef_at column it = slice_index_or it.row.coefs column (pos 0)

abbrev pub is_zero : ℤ → Bool
is_zero z = int_eq z (pos 0)

-- Rounding: coefficients that have a common divisor above 1 are divided by the greatest, and the constant with them,
-- rounded down. At whole numbers this loses nothing.
abbrev pub is_rounded : Affine → Bool
is_rounded row = nat_lt 1 (gcd_of_all row.coefs)

unfoldable pub rounded : Affine → Affine
rounded row = cond (is_rounded row) (quotient row (pos (gcd_of_all row.coefs))) row

-- a row that rounding changes takes the next number, by a step of its own
unfoldable pub rounded_rows : ℕ → List Numbered → List Numbered
rounded_rows next [] = []
rounded_rows next (it ∷ rest) =
    cond (is_rounded it.row) (record { row = rounded it.row; number = next } ∷ rounded_rows (next + 1) rest)
    (it ∷ rounded_rows next rest)

unfoldable pub rounding_steps : List Numbered → List Step
rounding_steps [] = []
rounding_steps (it ∷ rest) =
    cond (is_rounded it.row)
    (record { a = pos 1; i = it.number; b = pos 0; j = it.number; g = pos (gcd_of_all it.row.coefs) } ∷ rounding_steps rest)
    (rounding_steps rest)

-- a row without a nonzero coefficient is its constant everywhere, and refutes the system where that is negative
unfoldable pub is_constant : Numbered → Bool
is_constant it = list_all is_zero it.row.coefs

unfoldable pub is_refuting : Numbered → Bool
is_refuting it = is_constant it && int_lt it.row.konst (pos 0)

-- Of rows with the same coefficients the one with the least constant is the strongest, the earliest if several have it.
unfoldable pub is_at_least_as_strong : Numbered → Numbered → Bool
is_at_least_as_strong it other = int_le other.row.konst it.row.konst && pointwise int_eq other.row.coefs it.row.coefs

unfoldable pub is_stronger : Numbered → Numbered → Bool
is_stronger it other = int_lt other.row.konst it.row.konst && pointwise int_eq other.row.coefs it.row.coefs

unfoldable pub stays : List Numbered → ℕ → Bool
stays rows place =
    not (is_constant (row_at rows place))
    && (not (list_any (is_at_least_as_strong (row_at rows place)) (take place rows))
    && not (list_any (is_stronger (row_at rows place)) (drop (place + 1) rows)))

unfoldable pub strongest : List Numbered → List Numbered
strongest rows = items_where_true (map (stays rows) (range_with_len 0 (length rows))) rows

-- the place of the first row that refutes the system, if there is one; and the rows that tidying leaves
abbrev pub contradiction_in : ℕ → List Numbered → Option ℕ
contradiction_in next rows = position is_refuting (rounded_rows next rows)

abbrev pub tidied : ℕ → List Numbered → List Numbered
tidied next rows = strongest (rounded_rows next rows)
