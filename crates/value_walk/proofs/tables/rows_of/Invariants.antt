use Rattle.std.proofs.Common.{◌≡◌, ◌++◌, length}
use Rattle.std.specs.Prelude.{All, map}
use Rattle.az_ast.specs.Meaning.{Means}
use Rattle.value_walk.proofs.tables.rows_of.Given as goal

abbrev pub invariant-loop-point : goal.invariant-loop-point
invariant-loop-point l =
    (l.fn.points ≡ l.points ++ map (λ row. row.0) l.rows) × All (λ row. Means l.fn.program l.fn.inputs l.fn.params l.fn.x row.0 row.1) l.rows

abbrev pub decreases-loop-point : goal.decreases-loop-point
decreases-loop-point l = length l.points
