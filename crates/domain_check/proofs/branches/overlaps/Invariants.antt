use Rattle.std.proofs.Common.{◌≡◌, ◌++◌, map, drop}
use Rattle.formula_refute.specs.Claims.{claim}
use Rattle.domain_check.specs.Checks.{overlaps}
use Rattle.domain_check.proofs.branches.overlaps.Given as goal

-- what was found, with what is left to be found
abbrev pub invariant-branches : goal.invariant-branches
invariant-branches l =
    map claim l.found.items ++ overlaps l.scope (map (λ branch. branch.domain) (drop l.number l.branches)) ≡ overlaps l.scope (map (λ branch. branch.domain) l.branches)
