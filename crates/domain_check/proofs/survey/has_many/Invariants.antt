use Rattle.std.proofs.Common.{◌≡◌, length, map, take, min}
use Rattle.std.specs.List.{flat_map}
use Rattle.formula_refute.specs.Claims.{claim}
use Rattle.domain_check.specs.Cases.{cases_of_claim}
use Rattle.domain_check.proofs.survey.has_many.Given as goal

abbrev pub invariant-formulas : goal.invariant-formulas
invariant-formulas l =
    l.count ≡ min (length (flat_map (cases_of_claim l.checks.kind l.checks.width) (map claim (take l.formula-index l.checks.formulas.items)))) 131073
