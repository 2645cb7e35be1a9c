use Rattle.std.proofs.Common.{◌≡◌, length, map, arith}
use Rattle.expr_places.specs.Lent.{place_of}
use Rattle.expr_places.proofs.Walks.{case_walked}
use Rattle.expr_places.proofs.walk.+push_places.Goals as goal

pub returns-after-loop-branch : goal.returns-after-loop-branch
returns-after-loop-branch t c =
    let items = c.as_slice-branches.result.now in
    let at : c.loop-branch.branch-index ≡ length items = omega arith in
    case_walked c.args.scope.now c.args.e.now (map place_of c.args.found.now.items) (map place_of c.loop-branch.found.items)
    c.in-Cases.branches items c.loop-branch.branch-index c.in-Cases.is c.as_slice-branches.ensures at c.loop-branch.invariant
