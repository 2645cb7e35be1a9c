use Rattle.std.proofs.Common.{◌≡◌, ◌∙◌, ap, take, map, length, arith}
use Rattle.std.proofs.Math.Seq.{take-length}
use Rattle.std.proofs.Common.{List, sym, subst}
use Rattle.std.specs.Prelude.{All as AllOf}
use Rattle.az_lin.specs.Affine.{HasWidth}
use Rattle.formula_refute.specs.declared.formula.Formula.{Formula}
use Rattle.formula_refute.proofs.MemberWidths.{rows_of_any}
use Rattle.formula_refute.specs.Claims.{claim, IsOver}
use Rattle.formula_refute.specs.Domains.{conj_claim}
use Rattle.formula_refute.proofs.DomainTruth.{union_made}
use Rattle.formula_refute.proofs.domain.union_formula.Goals as goal

pub returns-clause-ok : goal.returns-clause-ok
returns-clause-ok c =
    let conjs = c.args.disjuncts.now in
    let end : c.disjuncts.conj-index ≡ length conjs = omega arith in
    union_made c.from_vec.result conjs
    (ap (map claim) c.from_vec.ensures ∙ c.disjuncts.invariant.made ∙ ap (λ n. map conj_claim (take n conjs)) end ∙ ap (map conj_claim) (take-length conjs)) (λ one. omega (arith, one))

pub returns-clause-width : goal.returns-clause-width
returns-clause-width c =
    let P : List Formula → Type 0 = λ members. AllOf (λ f. IsOver c.args.width (claim f)) members in
    rows_of_any (HasWidth c.args.width) c.from_vec.result (subst P (sym c.from_vec.ensures) c.disjuncts.invariant.widths)
