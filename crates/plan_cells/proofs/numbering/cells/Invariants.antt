use Rattle.plan_cells.specs.Inner.Passing.{AreTaken}
use Rattle.plan_cells.proofs.numbering.cells.Given as goal

abbrev pub invariant-variables : goal.invariant-variables
invariant-variables l = AreTaken l.kept.mapping.now l.kept.params.now l.kept.instances.now l.x l.homes.items l.used
