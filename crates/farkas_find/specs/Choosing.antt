-- Choosing the column that a stage eliminates, among the columns that may go.
use Rattle.std.specs.Prelude.{ℕ, ◌+◌, ◌*◌, Bool, true, false, not, ◌&&◌, nat_eq, nat_lt, filter, cond, List, [], ◌∷◌, length, count_by, neg_ℤ}
use Rattle.std.specs.Prelude.{Option, Some, None}
use Rattle.std.specs.Option.{option_map, option_or}
use Rattle.std.specs.List.{range_with_len, position, fold}
use Rattle.std.specs.Ordering.{int_eq}
use Rattle.std.specs.Cmp.Lexicographic.{pointwise}
use Rattle.farkas_find.specs.Tidying.{row_at, coef_at, is_zero}
use Rattle.farkas_find.specs.Combining.{is_positive, has_sign}
use Rattle.farkas_find.specs.declared.numbered.Numbered.{Numbered}
use Rattle.farkas_find.specs.declared.choice.Pair.{Pair}
use Rattle.farkas_find.specs.declared.choice.Choice.{Choice}

-- the first value that the items give, if one of them gives a value
abbrev pub first_of : {A B : Type 0} → (A → Option B) → List A → Option B
first_of give [] = None
first_of give (x ∷ xs) = option_or (give x) (first_of give xs)

-- The exact negative of a row has the negative of every entry, the constant's too. After tidying there is at most one.
unfoldable pub is_negative_of : Numbered → Numbered → Bool
is_negative_of it other =
    int_eq other.row.konst (neg_ℤ it.row.konst) && pointwise (λ x y. int_eq x (neg_ℤ y)) other.row.coefs it.row.coefs

unfoldable pub negative_place : List Numbered → ℕ → Option ℕ
negative_place rows place = position (is_negative_of (row_at rows place)) rows

-- a pair in a column: the first row with the column whose exact negative is there, and that negative
unfoldable pub oriented : ℕ → List Numbered → ℕ → ℕ → Pair
oriented column rows place other =
    cond (is_positive (coef_at column (row_at rows place)))
    (record { plus = place; minus = other }) (record { plus = other; minus = place })

unfoldable pub pair_at : ℕ → List Numbered → ℕ → Option Pair
pair_at column rows place =
    cond (is_zero (coef_at column (row_at rows place))) None (option_map (oriented column rows place) (negative_place rows place))

unfoldable pub pair_in : ℕ → List Numbered → Option Pair
pair_in column rows = first_of (pair_at column rows) (range_with_len 0 (length rows))

-- with such pairs, the lowest column goes that has one
abbrev pub choice_with : List Numbered → ℕ → Option Choice
choice_with rows column = option_map (λ pair. record { column = column; pair = Some pair }) (pair_in column rows)

unfoldable pub choice_by_pair : List ℕ → List Numbered → Option Choice
choice_by_pair columns rows = first_of (choice_with rows) columns

-- else the column goes for which the fewest pairs of rows are combined, the lowest on ties
abbrev pub count_with : Bool → ℕ → List Numbered → ℕ
count_with positive column rows = count_by (λ it. has_sign positive (coef_at column it)) rows

abbrev pub is_live : ℕ → List Numbered → Bool
is_live column rows = nat_lt 0 (count_with true column rows + count_with false column rows)

abbrev pub count_of_pairs : ℕ → List Numbered → ℕ
count_of_pairs column rows = count_with true column rows * count_with false column rows

abbrev pub is_better : List Numbered → Option ℕ → ℕ → Bool
is_better rows None column = is_live column rows
is_better rows (Some best) column = is_live column rows && nat_lt (count_of_pairs column rows) (count_of_pairs best rows)

abbrev pub better_of : List Numbered → Option ℕ → ℕ → Option ℕ
better_of rows best column = cond (is_better rows best column) (Some column) best

abbrev pub count_of_best : Option ℕ → List Numbered → ℕ
count_of_best None rows = 0
count_of_best (Some best) rows = count_of_pairs best rows

unfoldable pub column_by_count : List ℕ → List Numbered → Option ℕ
column_by_count columns rows = fold (better_of rows) None columns

unfoldable pub choice_of : List ℕ → List Numbered → Option Choice
choice_of columns rows =
    option_or (choice_by_pair columns rows) (option_map (λ column. record { column = column; pair = None }) (column_by_count columns rows))

-- the columns that may go: all, or all but one
abbrev pub is_free : Option ℕ → ℕ → Bool
is_free None column = true
is_free (Some kept) column = not (nat_eq column kept)

unfoldable pub free_columns : Option ℕ → ℕ → List ℕ
free_columns kept width = filter (is_free kept) (range_with_len 0 width)
