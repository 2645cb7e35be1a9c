use Rattle.std.proofs.Common.{◌≡◌, ◌+◌, drop}
use Rattle.std.specs.Prelude.{map}
use Rattle.az_ast.specs.Shapes.{first_kind}
use Rattle.program_names.specs.Refusals.{missing_kind}
use Rattle.program_names.proofs.faults.missing_fault.Given as goal

abbrev pub invariant-items : goal.invariant-items
invariant-items l =
    first_kind (l.item + l.place) (map (missing_kind l.equations) (drop l.place l.declarations))
    ≡ first_kind l.item (map (missing_kind l.equations) l.declarations)
