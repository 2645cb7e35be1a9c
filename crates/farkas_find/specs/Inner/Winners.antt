-- Where the strongest row stands of those with the same coefficients, among the rows before a place.
use Rattle.std.specs.Prelude.{◌≡◌, ◌≢◌, ℕ, ◌<◌, Bool, false, nat_eq, int_le, length, List, Option, Some, None, ℤ, ◌≤ℤ◌, ◌<ℤ◌}
use Rattle.std.specs.Borrow.{Bor}
use Rattle.std.specs.HashMap.{HashMap, get}
use Rattle.std.specs.Ordering.{int_eq}
use Rattle.std.specs.Cmp.Lexicographic.{pointwise}
use Rattle.farkas_find.specs.Tidying.{row_at}
use Rattle.farkas_find.specs.declared.numbered.Numbered.{Numbered}

abbrev pub coefs_at : List Numbered → ℕ → List ℤ
coefs_at rows place = (row_at rows place).row.coefs

abbrev pub konst_at : List Numbered → ℕ → ℤ
konst_at rows place = (row_at rows place).row.konst

-- the first of the strongest rows with these coefficients before a place
pub record IsWinner (rows : List Numbered) (place : ℕ) (coefs : List ℤ) (winner : ℕ) : Type 0 where
  pub before : winner < place
  pub same : coefs_at rows winner ≡ coefs
  pub least : (k : ℕ) → k < place → coefs_at rows k ≡ coefs → konst_at rows winner ≤ℤ konst_at rows k
  pub first : (k : ℕ) → k < winner → coefs_at rows k ≡ coefs → konst_at rows winner <ℤ konst_at rows k

-- a look-up finds it for each list of coefficients that is there
pub record Finds {K : Type 0} (coefs_of : K → List ℤ) (rows : List Numbered) (place : ℕ) (find : K → Option ℕ) : Type 0 where
  pub found : (key : K) (winner : ℕ) → find key ≡ Some winner → IsWinner rows place (coefs_of key) winner
  pub known : (key : K) (k : ℕ) → k < place → coefs_at rows k ≡ coefs_of key → find key ≢ None

abbrev pub AreWinners : {S : Type 0} → List Numbered → ℕ → HashMap (Bor (List ℤ)) ℕ S → Type 0
AreWinners rows place winners = Finds (λ (key : Bor (List ℤ)). key.now) rows place (get (λ x y. pointwise int_eq x.now y.now) winners)

-- whether a row that was found has at most this constant, and whether it stands at this place
abbrev pub is_as_strong : List Numbered → Option ℕ → ℤ → Bool
is_as_strong rows None konst = false
is_as_strong rows (Some best) konst = int_le (konst_at rows best) konst

abbrev pub is_found : Option ℕ → ℕ → Bool
is_found None place = false
is_found (Some winner) place = nat_eq winner place

-- the place that was found is one of a row
abbrev pub IsInside : List Numbered → Option ℕ → Type 0
IsInside rows None = Unit {0}
IsInside rows (Some best) = best < length rows
