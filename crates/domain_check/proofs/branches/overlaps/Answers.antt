use Rattle.std.proofs.Common.{map, get_or, ap}
use Rattle.formula_refute.specs.Claims.{claim}
use Rattle.domain_check.specs.Checks.{overlaps}
use Rattle.domain_check.proofs.Building.{overlaps_next}
use Rattle.domain_check.proofs.branches.overlaps.Goals as goal

pub branches-preserved : goal.branches-preserved
branches-preserved c =
    let branches = c.args.branches.now in
    let n = c.branches.number in
    let branch = get_or branches n c.index-branches-number.result in
    overlaps_next c.args.scope.now branches n branch (map claim c.branches.found.items) (map claim c.push_overlaps.new.found.items)
    (overlaps c.args.scope.now (map (λ branch. branch.domain) branches)) c.branches-test.true (ap (λ d. get_or branches n d) c.index-branches-number.is) c.branches.invariant c.in_ok-push_overlaps.ensures
