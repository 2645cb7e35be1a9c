use Rattle.std.proofs.Common.{map, take, All}
use Rattle.map_verify.specs.Formulas.{HasFewCases}
use Rattle.order_sets.specs.Stated.{stated_claim}
use Rattle.map_verify.proofs.ready.are_few.Given as goal

abbrev pub invariant-formulas : goal.invariant-formulas
invariant-formulas l = All HasFewCases (take l.number (map stated_claim l.formulas))
