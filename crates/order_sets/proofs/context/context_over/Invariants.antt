use Rattle.std.proofs.Common.{◌≡◌, take, map}
use Rattle.domain_check.specs.Context.{over}
use Rattle.order_sets.proofs.context.context_over.Given as goal

abbrev pub invariant-domains : goal.invariant-domains
invariant-domains l = l.wide.items ≡ map (λ domain. over l.width domain.now) (take l.domain-index l.domains)
