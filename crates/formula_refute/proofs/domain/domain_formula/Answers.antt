use Rattle.std.proofs.Common.{◌≡◌, ◌∙◌, ◌↔◌, ap}
use Rattle.az_lin.specs.Affine.{HoldsSome}
use Rattle.formula_refute.specs.Claims.{claim, IsTrueAt}
use Rattle.formula_refute.specs.Domains.{claim_of_disjuncts}
use Rattle.formula_refute.specs.declared.formula.Formula.{Formula}
use Rattle.formula_refute.proofs.DomainTruth.{domain_true}
use Rattle.formula_refute.proofs.Outcomes.{ok_then}
use Rattle.formula_refute.proofs.domain.domain_formula.Goals as goal

pub returns-clause-meaning : goal.returns-clause-meaning
returns-clause-meaning c = λ z.
    let P : Formula → Type 0 = λ formula. claim formula ≡ claim_of_disjuncts c.disjuncts.result.now in
    let Q : Formula → Type 0 = λ formula. IsTrueAt z (claim formula) ↔ HoldsSome c.args.domain.now z in
    ok_then P Q (λ formula is. domain_true z c.args.domain.now formula (is ∙ ap claim_of_disjuncts c.disjuncts.ensures.value)) c.union_formula.result c.union_formula.ensures.ok
