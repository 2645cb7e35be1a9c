use Rattle.std.proofs.Common.{◌≡◌, map, take, All}
use Rattle.formula_refute.specs.Claims.{claim, IsInRange}
use Rattle.domain_check.specs.Checks.{outside_of}
use Rattle.domain_check.proofs.branches.outsides.Given as goal

abbrev pub invariant-branches : goal.invariant-branches
invariant-branches l =
    (map claim l.found.items ≡ map (λ branch. outside_of branch.domain) (take l.branch-index l.branches))
    × All IsInRange (map (λ branch. outside_of branch.domain) (take l.branch-index l.branches))
