-- What a nest says of the points that it accepts.
use Rattle.std.specs.Prelude.{◌≡◌, ◌≢◌, ℕ, ◌<◌, ◌↔◌, List, [], length, map, All, false, ℤ, pos, Option, Some, None, slice_index_or}
use Rattle.az_lin.specs.Affine.{Affine, IsAtLeastZero}
use Rattle.farkas_find.specs.Remaining.{HaveColumns}
use Rattle.farkas_find.specs.Rows.{affine_of, HasWideRow}
use Rattle.farkas_find.specs.declared.wide.WideRow.{WideRow}
use Rattle.loop_scan.specs.declared.nest.Nest.{Nest}
use Rattle.loop_scan.specs.Nest.Levels.{AreLevels}
use Rattle.loop_scan.specs.Nest.Walks.{Passes}

pub record IsNest (width : ℕ) (nest : Nest) : Type 0 where
  pub levels : AreLevels 0 nest.levels.items
  pub indices : length nest.levels.items ≡ width

abbrev pub Accepts : Nest → List ℤ → Type 0
Accepts nest y = (nest.refuted ≡ false) × Passes nest.levels.items [] y

-- one more row
abbrev pub AcceptsMore : Nest → Nest → Affine → List ℤ → Type 0
AcceptsMore old new row y = Accepts new y ↔ (Accepts old y × IsAtLeastZero y row)

-- a nest that accepts no more, and all that meets the condition
abbrev pub Narrows : Type 0 → Nest → Nest → List ℤ → Type 0
Narrows Meets old new y = (Accepts new y → Accepts old y) × (Meets → Accepts old y → Accepts new y)

-- the rows of a next stage: at least 0 wherever the given rows and those of this stage are, and none where those never are
pub record AreNextRows (width : ℕ) (given : List Affine) (rows left : List WideRow) : Type 0 where
  pub columns : HaveColumns width left
  pub range : All HasWideRow left
  pub sound : (y : List ℤ) → All (IsAtLeastZero y) given → All (IsAtLeastZero y) (map affine_of rows) → All (IsAtLeastZero y) (map affine_of left)

abbrev pub FollowsRows : ℕ → List Affine → List WideRow → Option (List WideRow) → Type 0
FollowsRows width given rows None = (y : List ℤ) → All (IsAtLeastZero y) (map affine_of rows) → ⊥
FollowsRows width given rows (Some left) = AreNextRows width given rows left

-- the last place among the first so many where the coefficient isn't 0
abbrev pub IsLastColumn : List ℤ → ℕ → Option ℕ → Type 0
IsLastColumn coefs n None = (k : ℕ) → k < n → slice_index_or coefs k (pos 0) ≡ pos 0
IsLastColumn coefs n (Some last) =
    (last < n) × (slice_index_or coefs last (pos 0) ≢ pos 0) × ((k : ℕ) → last < k → k < n → slice_index_or coefs k (pos 0) ≡ pos 0)
