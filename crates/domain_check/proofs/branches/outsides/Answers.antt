use Rattle.std.proofs.Common.{map, All}
use Rattle.formula_refute.specs.Claims.{IsInRange}
use Rattle.domain_check.specs.Checks.{outside_of}
use Rattle.domain_check.proofs.Building.{handed_on}
use Rattle.domain_check.proofs.Grown.{mapped_at}
use Rattle.domain_check.proofs.branches.outsides.Goals as goal

pub returns-in-Err : goal.returns-in-Err
returns-in-Err c =
    let branch = c.branch-item.result in
    handed_on (IsInRange (outside_of branch.domain)) (All IsInRange (map (λ branch. outside_of branch.domain) c.args.branches.now)) c.in-Err.fault (c.in-Err.ensures {u = tt})
    (λ all. mapped_at IsInRange (λ branch. outside_of branch.domain) c.args.branches.now c.branches.branch-index branch c.branches-test.true c.branch-item.is all)
