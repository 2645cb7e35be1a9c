use Rattle.std.proofs.Common.{map, All}
use Rattle.formula_refute.specs.Claims.{IsInRange}
use Rattle.domain_check.specs.Checks.{outside_of}
use Rattle.domain_check.proofs.Building.{handed_on, gap_made, gap_fits}
use Rattle.domain_check.proofs.branches.gap.Goals as goal

pub returns-in_ok-in_force-in-Ok : goal.returns-in_ok-in_force-in-Ok
returns-in_ok-in_force-in-Ok c =
    let made = c.in-Ok.ensures {u = tt} in
    (gap_made c.args.scope.now c.args.branches.now c.in-Ok.outsides.items c.in_ok-in_force-in-Ok.field-0 made.0 c.in_ok-in_force-in-Ok.ensures, (gap_fits c.args.branches.now).0 made.1)

pub returns-in-Err : goal.returns-in-Err
returns-in-Err c =
    let branches = c.args.branches.now in
    handed_on (All IsInRange (map (λ branch. outside_of branch.domain) branches)) (All IsInRange (map outside_of (map (λ branch. branch.domain) branches)))
    c.in-Err.fault (c.in-Err.ensures {u = tt}) (gap_fits branches).1
