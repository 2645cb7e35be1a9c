-- The numbers of cells.
--
-- Spaces follow one another in order of their first variables. A space is a box: a coordinate without a factor goes
-- from the least to the greatest value that it has in an instance, and one with a factor takes the remainders of the
-- factor. The cells of a box are numbered row by row, the last coordinate fastest.
use Rattle.std.specs.Prelude.{ℕ, zero, suc, ◌+◌, ◌-◌, ◌*◌, ◌^◌, ◌==◌, Bool, ◌&&◌, if◌then◌else◌, ℤ, pos, ◌-ℤ◌, ◌+ℤ◌, ◌≤ℤ◌, unsigned_abs, List, [], ◌∷◌, ◌++◌, map, filter, fold, get_or, slice_get, Option, Some, None, MatchOption}
use Rattle.std.specs.Int.{int_min, int_max}
use Rattle.std.specs.Option.{option_map_or}
use Rattle.execution.specs.declared.instance.Instance.{Instance}
use Rattle.plan_cells.specs.declared.numbers.Home.{Home}
use Rattle.plan_cells.specs.declared.range.Range.{Range}
use Rattle.plan_cells.specs.declared.side.Side.{Side}
use Rattle.target_map.specs.Settings.{TargetMapping}
use Rattle.target_map.specs.Storage.{shares_space}
use Rattle.target_map.specs.Times.{storage_of, cell_at}

-- as far as one number more, and as far as all of some
abbrev pub stretched : Option Range → ℤ → Option Range
stretched None x = Some (record { least = x; greatest = x })
stretched (Some range) x =
    Some (record { least = int_min range.least x; greatest = int_max range.greatest x })

abbrev pub range_over : List ℤ → Option Range
range_over xs = fold stretched None xs

-- over the numbers of a range, or over the remainders of a factor, if it isn't 0
abbrev pub side_over : Option Range → ℕ → Side
side_over range (suc less) = record { low = pos 0; size = suc less }
side_over None zero = record { low = pos 0; size = 0 }
side_over (Some range) zero = record { low = range.least; size = unsigned_abs (range.greatest -ℤ range.least) + 1 }

abbrev pub volume : List Side → ℕ
volume [] = 1
volume (side ∷ sides) = side.size * volume sides

-- the number of the cell with these coordinates in a box
abbrev pub place : List Side → List ℤ → ℕ
place [] xs = 0
place (side ∷ sides) [] = 0
place (side ∷ sides) (x ∷ xs) = unsigned_abs (x -ℤ side.low) * volume sides + place sides xs

-- the first number from `a` on that passes the test, or the one after so many
abbrev pub first_from : (ℕ → Bool) → ℕ → ℕ → ℕ
first_from test a zero = a
first_from test a (suc n) = if test a then a else first_from test (suc a) n

-- the first variable in the space of a variable
abbrev pub first_of : TargetMapping → ℕ → ℕ
first_of m x = first_from (shares_space m x) 0 x

abbrev pub opens : TargetMapping → ℕ → Bool
opens m x = shares_space m x x && (first_of m x == x)

module _ (m : TargetMapping) (params : List ℤ) where
  abbrev pub coordinate : ℕ → Instance → ℤ
  coordinate j u = get_or (cell_at m u.variable (params ++ u.point)) j (pos 0)

  -- the range of a coordinate over the instances of a space, and the sides of its box from that coordinate on
  abbrev pub range_at : List Instance → ℕ → Option Range
  range_at kept j = range_over (map (coordinate j) kept)

  abbrev pub sides_over : List Instance → ℕ → List ℕ → List Side
  sides_over kept j [] = []
  sides_over kept j (factor ∷ factors) = side_over (range_at kept j) factor ∷ sides_over kept (suc j) factors

  module _ (us : List Instance) where
    -- those of the instances that are in the space of a variable
    abbrev pub kept_with : ℕ → List Instance
    kept_with x = filter (λ u. shares_space m x u.variable) us

    abbrev pub sides_of : ℕ → List Side
    sides_of x = sides_over (kept_with x) 0 (storage_of m x).factors

    -- how many cells the spaces have whose first variables are below `x`
    abbrev pub taken : ℕ → ℕ
    taken zero = 0
    taken (suc x) = taken x + (if opens m x then volume (sides_of x) else 0)

    abbrev pub home_of : ℕ → Home
    home_of x = record { base = taken (first_of m x); sides = sides_of x }

-- the homes of all variables, and how many cells there are
pub record Numbers : Type 0 where
  pub homes : List Home
  pub count : ℕ

-- the number of the cell of a variable at these coordinates, of which those with a factor are remainders
abbrev pub number_in : Numbers → ℕ → List ℤ → ℕ
number_in numbers x coordinates = option_map_or (λ home. home.base + place home.sides coordinates) (slice_get numbers.homes x) 0

-- within the box
abbrev pub LiesOn : Side → ℤ → Type 0
LiesOn side x = (side.low ≤ℤ x) × ((x +ℤ pos 1) ≤ℤ (side.low +ℤ pos side.size))

abbrev pub LieOn : List Side → List ℤ → Type 0
LieOn [] [] = Unit {0}
LieOn [] (x ∷ xs) = ⊥
LieOn (side ∷ sides) [] = ⊥
LieOn (side ∷ sides) (x ∷ xs) = LiesOn side x × LieOn sides xs

abbrev pub HasCell : Numbers → ℕ → List ℤ → Type 0
HasCell numbers x coordinates = MatchOption (slice_get numbers.homes x) ⊥ (λ home. LieOn home.sides coordinates)

abbrev pub most_cells : ℕ
most_cells = 2 ^ 20 - 1
