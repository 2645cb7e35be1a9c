use Rattle.std.proofs.Common.{◌≡◌, ◌≤◌, map, ap, sym, subst, ◌∙◌, arith, length, All, Bor}
use Rattle.az_lin.specs.Affine.{Union}
use Rattle.az_lin.specs.declared.domain.Domain.{Domain}
use Rattle.domain_check.specs.Context.{over}
use Rattle.domain_check.proofs.Building.{map_after}
use Rattle.domain_check.proofs.Grown.{mapped_at, taken_all}
use Rattle.order_sets.proofs.context.context_over.Goals as goal

pub over-requires-clause-inside : goal.over-requires-clause-inside
over-requires-clause-inside c =
    let P : Union → Type 0 = λ domain. domain.width ≤ c.args.width in
    mapped_at P (λ domain. domain.now) c.as_slice-domains.result.now c.domains.domain-index c.domain-item.result c.domains-test.true c.domain-item.is
    (subst (All P) (sym c.as_slice-domains.ensures) c.requires.inside)

pub returns : goal.returns
returns c =
    let items = c.as_slice-domains.result.now in
    let over_it : Bor Domain → Union = λ domain. over c.args.width domain.now in
    let end : c.domains.domain-index ≡ length items = omega arith in
    c.domains.invariant ∙ (ap (map over_it) (taken_all items c.domains.domain-index end)
    ∙ (map_after (over c.args.width) (λ domain. domain.now) items ∙ ap (map (over c.args.width)) c.as_slice-domains.ensures))
