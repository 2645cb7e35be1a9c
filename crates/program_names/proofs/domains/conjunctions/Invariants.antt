use Rattle.std.proofs.Common.{◌≡◌, take}
use Rattle.std.specs.Prelude.{map}
use Rattle.program_names.specs.Sides.{conjunction_of}
use Rattle.program_names.proofs.domains.conjunctions.Given as goal

abbrev pub invariant-disjuncts : goal.invariant-disjuncts
invariant-disjuncts l = l.conjs.items ≡ map (conjunction_of l.scope) (take l.chains-index l.disjuncts)
