-- The walks through the disjuncts of a domain.
use Rattle.std.specs.Prelude.{◌≡◌, ℕ, List, length, All, Any, Contains, Option, Some, None, ℤ, ◌↔◌}
use Rattle.az_lin.specs.Affine.{Polyhedron, Holds}
use Rattle.az_ast.specs.Points.{IsIncreasing}
use Rattle.loop_scan.specs.declared.walk.Walk.{Walk}
use Rattle.loop_scan.specs.Members.{IsPoint}
use Rattle.loop_scan.specs.Nest.Walks.{to_come, IsWalk}

pub record IsWalkOver (width : ℕ) (it : Walk) : Type 0 where
  pub state : IsWalk it
  pub levels : length it.levels.items ≡ width
  pub increasing : IsIncreasing (to_come it)
  pub points : (y : List ℤ) → Contains (to_come it) y → IsPoint width y

-- through exactly the points of a system
abbrev pub IsWalkOf : ℕ → Polyhedron → Option Walk → Type 0
IsWalkOf width system None = (y : List ℤ) → length y ≡ width → Holds system y → ⊥
IsWalkOf width system (Some it) =
    IsWalkOver width it × ((y : List ℤ) → length y ≡ width → Contains (to_come it) y ↔ Holds system y)

abbrev pub SomeWalkGives : List Walk → List ℤ → Type 0
SomeWalkGives walks y = Any (λ it. Contains (to_come it) y) walks

pub record AreWalksOf (width : ℕ) (disjuncts : List Polyhedron) (walks : List Walk) : Type 0 where
  pub each : All (IsWalkOver width) walks
  pub points : (y : List ℤ) → length y ≡ width → SomeWalkGives walks y ↔ Any (λ disjunct. Holds disjunct y) disjuncts
