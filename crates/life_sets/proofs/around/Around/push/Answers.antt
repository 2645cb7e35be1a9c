use Rattle.std.proofs.Common.{◌≡◌, List, ◌++◌, map, ap, sym, subst, ◌∙◌, OnOk, rules}
use Rattle.az_lin.specs.Affine.{Union}
use Rattle.domain_check.specs.Context.{over}
use Rattle.domain_check.proofs.Building.{map_after}
use Rattle.formula_refute.specs.Claims.{Claim}
use Rattle.formula_refute.specs.Domains.{domain_claim}
use Rattle.order_sets.specs.Made.{AreMade}
use Rattle.life_sets.proofs.around.Around.push.Goals as goal

pub returns-then-width-self : goal.returns-then-width-self
returns-then-width-self c = λ cs.
    let around = c.args.self.now in
    let domains = around.scope.now.domains in
    let same : around.width ≡ c.args.width = search rules in
    let made : c.as_slice.result.now ≡ map (over c.args.width) domains = c.as_slice.ensures.value ∙ (c.requires.around ∙ ap (λ width. map (over width) domains) same) in
    subst (λ (ds : List Claim). OnOk c.push_domains.result (AreMade cs c.args.members.now → AreMade (cs ++ ds) c.push_domains.new.members))
    (ap (map domain_claim) made ∙ sym (map_after domain_claim (over c.args.width) domains))
    (c.push_domains.ensures cs)
