-- The walk through a nest of levels: which points it gives, and what is to come of it from a state on.
use Rattle.std.specs.Prelude.{◌≡◌, ℕ, zero, suc, ◌+◌, ◌≤◌, List, [], ◌∷◌, ◌++◌, length, take, drop, cond, true, ℤ, pos, ◌+ℤ◌, slice_index_or}
use Rattle.std.specs.List.{All, flat_map, sum_by}
use Rattle.az_lin.specs.Affine.{IsCoordinate}
use Rattle.loop_scan.specs.declared.range.Range.{Range}
use Rattle.loop_scan.specs.declared.level.Level.{Level}
use Rattle.loop_scan.specs.declared.walk.Walk.{Walk}
use Rattle.loop_scan.specs.Hulls.{size, no_range}
use Rattle.loop_scan.specs.Nest.Levels.{IsIn, range_at, HasCoordinates, AreLevels}

-- the integers of a range, in order
abbrev pub counted : ℤ → ℕ → List ℤ
counted low zero = []
counted low (suc n) = low ∷ counted (low +ℤ pos 1) n

abbrev pub integers : Range → List ℤ
integers range = counted range.low (size range)

-- the points that begin with z and go through the levels, and whether the coordinates y do
abbrev pub walk : List Level → List ℤ → List (List ℤ)
walk [] z = z ∷ []
walk (level ∷ levels) z = flat_map (λ x. walk levels (z ++ x ∷ [])) (integers (range_at level z))

abbrev pub Passes : List Level → List ℤ → List ℤ → Type 0
Passes [] z [] = Unit {0}
Passes [] z (x ∷ y) = ⊥
Passes (level ∷ levels) z [] = ⊥
Passes (level ∷ levels) z (x ∷ y) = IsIn (range_at level z) x × Passes levels (z ++ x ∷ []) y

-- how many steps that takes: one for each number of a range, and one to leave the range
abbrev pub steps : List Level → List ℤ → ℕ
steps [] z = 0
steps (level ∷ levels) z = suc (sum_by (λ x. suc (steps levels (z ++ x ∷ []))) (integers (range_at level z)))

-- with the first `depth` indices under way, what each has still before it
abbrev pub remaining : List Level → List ℤ → List Range → ℕ → List (List ℤ)
remaining levels point ranges zero = []
remaining levels point ranges (suc k) =
    flat_map (λ x. walk (drop (suc k) levels) (take k point ++ x ∷ [])) (integers (slice_index_or ranges k no_range))
    ++ remaining levels point ranges k

abbrev pub work : List Level → List ℤ → List Range → ℕ → ℕ
work levels point ranges zero = 0
work levels point ranges (suc k) =
    suc (sum_by (λ x. suc (steps (drop (suc k) levels) (take k point ++ x ∷ []))) (integers (slice_index_or ranges k no_range)))
    + work levels point ranges k

abbrev pub points_left : Walk → List (List ℤ)
points_left it = remaining it.levels.items it.point.items it.ranges.items it.depth

abbrev pub work_left : Walk → ℕ
work_left it = work it.levels.items it.point.items it.ranges.items it.depth

abbrev pub to_come : Walk → List (List ℤ)
to_come it = cond it.fresh (walk it.levels.items []) (points_left it)

pub record IsWalk (it : Walk) : Type 0 where
  pub levels : AreLevels 0 it.levels.items
  pub narrow : length it.levels.items ≤ 64
  pub places : length it.point.items ≡ length it.levels.items
  pub ranges : length it.ranges.items ≡ length it.levels.items
  pub within : it.depth ≤ length it.levels.items
  pub coordinates : All IsCoordinate it.point.items
  pub bounded : All HasCoordinates it.ranges.items
  pub idle : it.fresh ≡ true → it.depth ≡ 0

-- a step that keeps the levels and how many indices are under way
pub record IsSameNest (old new : Walk) : Type 0 where
  pub levels : new.levels ≡ old.levels
  pub depth : new.depth ≡ old.depth
  pub fresh : new.fresh ≡ old.fresh
