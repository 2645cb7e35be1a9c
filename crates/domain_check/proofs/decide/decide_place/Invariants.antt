use Rattle.std.proofs.Common.{◌≡◌, map, drop}
use Rattle.std.specs.List.{flat_map}
use Rattle.domain_check.specs.Cases.{cases_of}
use Rattle.domain_check.specs.Inner.Built.{checks_of}
use Rattle.domain_check.proofs.Loops.{GoesOn}
use Rattle.domain_check.proofs.decide.decide_place.Given as goal

abbrev pub invariant-checks : goal.invariant-checks
invariant-checks l =
    (l.at.variable ≡ l.fn.at.variable)
    × GoesOn l.fn.at.variable l.fn.at.next l.at.next (flat_map cases_of (map checks_of l.checks-items))
    (flat_map cases_of (map checks_of (drop l.checks-index l.checks-items)))
