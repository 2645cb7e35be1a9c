use Rattle.std.proofs.Common.{◌≡◌, List, ◌++◌, map, ap, sym, subst, ◌∙◌, OnOk}
use Rattle.az_lin.specs.Affine.{Union}
use Rattle.domain_check.specs.Context.{over}
use Rattle.domain_check.proofs.Building.{map_after}
use Rattle.formula_refute.specs.Claims.{Claim}
use Rattle.formula_refute.specs.Domains.{domain_claim}
use Rattle.order_sets.specs.Made.{AreMade}
use Rattle.order_sets.proofs.context.push_context.Goals as goal

pub returns : goal.returns
returns c = λ cs.
    let over_it : Union → Union = over c.args.width in
    let made : c.as_slice.result.now ≡ map over_it c.args.scope.now.domains = c.as_slice.ensures.value ∙ c.in_ok-domains.ensures in
    subst (λ (ds : List Claim). OnOk c.push_domains.result (AreMade cs c.args.members.now → AreMade (cs ++ ds) c.push_domains.new.members))
    (ap (map domain_claim) made ∙ sym (map_after domain_claim over_it c.args.scope.now.domains))
    (c.push_domains.ensures cs)
