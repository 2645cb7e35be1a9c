-- Which column goes where no row has an exact negative: one that some row has and for which the fewest pairs of rows are
-- combined, the first of these.
use Rattle.std.specs.Prelude.{◌≡◌, ℕ, ◌<◌, ◌≤◌, true, false, List, ◌∷◌, ◌++◌, All, Option, Some, None}
use Rattle.farkas_find.specs.Choosing.{is_live, count_of_pairs}
use Rattle.farkas_find.specs.declared.numbered.Numbered.{Numbered}

-- of the columns that some row has, each before it takes more pairs, and each after it no fewer
pub record IsFewest (columns : List ℕ) (rows : List Numbered) (column : ℕ) : Type 0 where
  pub before : List ℕ
  pub after : List ℕ
  pub split : columns ≡ before ++ column ∷ after
  pub live : is_live column rows ≡ true
  pub more : All (λ other. is_live other rows ≡ true → count_of_pairs column rows < count_of_pairs other rows) before
  pub no_fewer : All (λ other. is_live other rows ≡ true → count_of_pairs column rows ≤ count_of_pairs other rows) after

-- and none where no row has one of the columns
abbrev pub HasFewest : List ℕ → List Numbered → Option ℕ → Type 0
HasFewest columns rows None = All (λ column. is_live column rows ≡ false) columns
HasFewest columns rows (Some column) = IsFewest columns rows column
