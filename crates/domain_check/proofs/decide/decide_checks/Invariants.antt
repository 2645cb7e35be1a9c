use Rattle.std.proofs.Common.{◌≡◌, map, drop}
use Rattle.std.specs.List.{flat_map}
use Rattle.formula_refute.specs.Claims.{claim}
use Rattle.domain_check.specs.Cases.{cases_of, cases_of_claim}
use Rattle.domain_check.specs.Inner.Built.{checks_of}
use Rattle.domain_check.proofs.Loops.{GoesOn}
use Rattle.domain_check.proofs.decide.decide_checks.Given as goal

abbrev pub invariant-formulas : goal.invariant-formulas
invariant-formulas l =
    (l.at.variable ≡ l.fn.at.variable)
    × GoesOn l.fn.at.variable l.fn.at.next l.at.next (cases_of (checks_of l.checks))
    (flat_map (cases_of_claim l.checks.kind l.checks.width) (map claim (drop l.formula-index l.checks.formulas.items)))
