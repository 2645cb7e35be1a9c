use Rattle.std.proofs.Common.{List, ◌++◌, take, map}
use Rattle.formula_refute.specs.Claims.{Claim}
use Rattle.formula_refute.specs.Domains.{domain_claim}
use Rattle.order_sets.specs.Made.{AreMade}
use Rattle.order_sets.proofs.context.push_domains.Given as goal

abbrev pub invariant-domains : goal.invariant-domains
invariant-domains l = (cs : List Claim) → AreMade cs l.initial.members → AreMade (cs ++ map domain_claim (take l.domain-index l.domains)) l.members
