use Rattle.std.proofs.Common.{◌≡◌, ◌++◌, ◌∷◌, [], map, take}
use Rattle.formula_refute.specs.Claims.{claim}
use Rattle.formula_refute.specs.Domains.{domain_claim}
use Rattle.domain_check.specs.Context.{in_force}
use Rattle.domain_check.proofs.branches.push_overlaps.Given as goal

abbrev pub invariant-rest : goal.invariant-rest
invariant-rest l =
    map claim l.found.items
    ≡ map claim l.fn.found.items ++ map (λ other. in_force l.scope (domain_claim l.first ∷ domain_claim other.domain ∷ [])) (take l.other-index l.rest)
