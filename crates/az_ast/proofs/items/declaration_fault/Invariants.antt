use Rattle.std.proofs.Common.{◌≡◌, ◌+◌, []}
use Rattle.az_ast.specs.Shapes.{declaration_kind, kinds_after, first_kind}
use Rattle.az_ast.proofs.ItemSteps.{kinds_from}
use Rattle.az_ast.proofs.items.declaration_fault.Given as goal

abbrev pub invariant-items : goal.invariant-items
invariant-items l = first_kind (1 + l.place) (kinds_from declaration_kind l.variables l.place) ≡ first_kind 1 (kinds_after declaration_kind [] l.variables)
