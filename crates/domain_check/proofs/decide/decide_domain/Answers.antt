use Rattle.std.proofs.Common.{All, ap, subst, List}
use Rattle.domain_check.specs.Cases.{cases_of}
use Rattle.domain_check.specs.Checks.{Checks}
use Rattle.domain_check.specs.Stops.{IsRefuted}
use Rattle.domain_check.proofs.decide.decide_domain.Goals as goal

pub returns-in-Ok : goal.returns-in-Ok
returns-in-Ok c =
    let P : Checks → Type 0 = λ checks. All IsRefuted (cases_of checks) in
    subst P c.in_ok-checks.ensures (c.in-Ok.ensures {u = tt}).0
