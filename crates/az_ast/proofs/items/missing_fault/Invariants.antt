use Rattle.std.proofs.Common.{◌≡◌, ◌+◌, drop}
use Rattle.az_ast.specs.Shapes.{missing_kinds, first_kind}
use Rattle.az_ast.proofs.items.missing_fault.Given as goal

abbrev pub invariant-items : goal.invariant-items
invariant-items l = first_kind (1 + l.place) (missing_kinds l.equations l.place (drop l.place l.variables)) ≡ first_kind 1 (missing_kinds l.equations 0 l.variables)
