use Rattle.std.proofs.Common.{◌≡◌, map, drop}
use Rattle.std.specs.List.{flat_map}
use Rattle.expr_places.specs.Lent.{place_of}
use Rattle.domain_check.specs.Cases.{cases_at}
use Rattle.domain_check.proofs.Loops.{GoesOn}
use Rattle.domain_check.proofs.decide.decide_equation.Given as goal

abbrev pub invariant-each : goal.invariant-each
invariant-each l =
    (l.at.variable ≡ l.equation.variable)
    × GoesOn l.equation.variable 0 l.at.next (flat_map (cases_at l.program) (map place_of l.place-items))
    (flat_map (cases_at l.program) (map place_of (drop l.place-index l.place-items)))
