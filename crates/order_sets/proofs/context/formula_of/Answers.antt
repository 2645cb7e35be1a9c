use Rattle.std.proofs.Common.{List, All, subst}
use Rattle.az_lin.specs.Affine.{Polyhedron, HasEntries, HasEntryConj}
use Rattle.domain_check.proofs.DomainClaims.{domain_has}
use Rattle.order_sets.proofs.context.formula_of.Goals as goal

pub returns-in-Ok : goal.returns-in-Ok
returns-in-Ok c = (
  c.in-Ok.ensures.ok,
  (domain_has HasEntries c.args.domain.now).1 (subst (λ (conjs : List Polyhedron). All HasEntryConj conjs) c.disjuncts.ensures.value c.disjuncts.ensures.entries),
)
