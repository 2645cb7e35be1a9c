use Rattle.std.proofs.Common.{◌≡◌, map, take}
use Rattle.formula_refute.specs.declared.formula.Formula.TheVariants.{Atom}
use Rattle.domain_check.proofs.directions.all_of.Given as goal

abbrev pub invariant-rows : goal.invariant-rows
invariant-rows l = l.members.items ≡ map Atom (take l.row-index l.slopes)
