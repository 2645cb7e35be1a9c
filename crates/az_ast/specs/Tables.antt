-- Tables of values: rows of a point and its value. A table gives the value of its first row with the
-- point, and the inputs give the tables by the numbers of the variables.
use Rattle.std.specs.Prelude.{◌≡◌, ℕ, ℤ, List, [], ◌∷◌, ◌⊎◌, MatchOption, map}
use Rattle.std.specs.Ordering.{nat_cmp}
use Rattle.std.specs.FinMap.{FinMap, get}
use Rattle.az_ast.specs.Points.{IsIncreasing}

abbrev pub Rows : Type 0
Rows = List (List ℤ × ℤ)

abbrev pub TableGives : Rows → List ℤ → ℤ → Type 0
TableGives [] z v = ⊥
TableGives (row ∷ rows) z v = ((row.0 ≡ z) × (row.1 ≡ v)) ⊎ ((row.0 ≡ z → ⊥) × TableGives rows z v)

abbrev pub Tables : Type 0
Tables = FinMap nat_cmp Rows

abbrev pub InputGives : Tables → ℕ → List ℤ → ℤ → Type 0
InputGives tables variable z v = MatchOption (get tables variable) ⊥ (λ rows. TableGives rows z v)

-- the rows of a table are in strictly increasing order of their points
abbrev pub IsTable : Rows → Type 0
IsTable rows = IsIncreasing (map (λ row. row.0) rows)
