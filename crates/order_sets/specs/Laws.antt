-- What the formulas of the dependences mean: each is true at a point exactly where the read there is too early.
use Rattle.std.specs.Prelude.{◌≡◌, ◌↔◌, ℤ, List, length, All}
use Rattle.az_ast.specs.Shapes.{IsProgram}
use Rattle.az_ast.specs.System.{System}
use Rattle.expr_places.specs.Reads.{reads_of}
use Rattle.formula_refute.specs.Claims.{IsTrueAt}
use Rattle.order_sets.specs.Orders.{order_claim}
use Rattle.target_map.specs.Dependence.{ReadsTooEarly}
use Rattle.target_map.specs.Settings.{TargetMapping, IsMapping, IsComplete}

abbrev pub OrderIsMeant : Type 0
OrderIsMeant = (p : System) (m : TargetMapping) → IsProgram p → IsMapping m → IsComplete p m
    → All (λ equation. All (λ read. (z : List ℤ) → length z ≡ read.scope.width
    → IsTrueAt z (order_claim p m equation.variable read) ↔ ReadsTooEarly p m equation.variable read z) (reads_of p equation)) p.equations
