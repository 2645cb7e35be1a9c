use Rattle.std.proofs.Common.{◌≡◌, map, take}
use Rattle.formula_refute.specs.Claims.{claim}
use Rattle.formula_refute.specs.Domains.{domain_claim}
use Rattle.domain_check.specs.Context.{over}
use Rattle.domain_check.proofs.build.in_force.Given as goal

abbrev pub invariant-domains : goal.invariant-domains
invariant-domains l = map claim l.members.items ≡ map (λ domain. domain_claim (over l.scope.width domain.now)) (take l.domain-index l.domain-items)
