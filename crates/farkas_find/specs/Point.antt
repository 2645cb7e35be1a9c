-- The point of a system that no stage refutes.
use Rattle.std.specs.Prelude.{◌≡◌, ℕ, List, map, None}
use Rattle.az_lin.specs.Affine.{Affine, Polyhedron}
use Rattle.farkas_find.specs.Tidying.{rounded, contradiction_in}
use Rattle.farkas_find.specs.Choosing.{choice_of, free_columns}
use Rattle.farkas_find.specs.Stages.{given_rows, tidied_rows, IsReached}
use Rattle.farkas_find.specs.declared.trail.Stage.{Stage}
use Rattle.farkas_find.specs.declared.trail.Eliminated.{Eliminated}

-- the given rows, rounded
abbrev pub rounded_system : ℕ → List Affine → Polyhedron
rounded_system width given = record { width = width; rows = map rounded given }

-- after the columns of this trail no row refutes the system, and no row that tidying leaves has a column
pub record EndsOpen (width : ℕ) (given : List Affine) (trail : List Eliminated) : Type 0 where
  pub number : ℕ
  pub stage : Stage
  pub reached : IsReached (free_columns None width) (given_rows given) number stage
  pub unrefuted : contradiction_in stage.next stage.rows ≡ None
  pub last : choice_of (free_columns None width) (tidied_rows stage) ≡ None
  pub gone : trail ≡ stage.trail
