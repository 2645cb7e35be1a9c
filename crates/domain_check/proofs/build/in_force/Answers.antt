use Rattle.std.proofs.Common.{◌≡◌, ◌≤◌, ◌∙◌, ap, ap₂, ◌++◌, map, length, subst, sym, All, arith}
use Rattle.az_lin.specs.Affine.{Union}
use Rattle.domain_check.proofs.Building.{in_force_made}
use Rattle.domain_check.proofs.Grown.{mapped_at}
use Rattle.domain_check.proofs.build.in_force.Goals as goal

pub formula_over-requires-clause-inside : goal.formula_over-requires-clause-inside
formula_over-requires-clause-inside c =
    let P : Union → Type 0 = λ domain. domain.width ≤ c.args.scope.now.width in
    mapped_at P (λ domain. domain.now) c.as_slice-domain-items.result.now c.domains.domain-index c.domain-item.result c.domains-test.true c.domain-item.is
    (subst (All P) (sym c.as_slice-domain-items.ensures) c.requires.inside)

pub returns : goal.returns
returns c =
    let end : c.domains.domain-index ≡ length c.as_slice-domain-items.result.now = omega arith in
    in_force_made c.args.scope.now (λ domain. domain.now) c.as_slice-domain-items.result.now c.domains.domain-index c.domains.members.items c.append.new.self c.args.further.items end c.domains.invariant
    c.as_slice-domain-items.ensures (c.in_ok-append.ensures ∙ ap₂ (λ xs ys. xs ++ ys) c.from_vec-members.ensures c.from_vec.ensures)
