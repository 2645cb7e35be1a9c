use Rattle.std.proofs.Common.{◌≡◌, ◌∙◌, length, ap, sym, subst}
use Rattle.std.specs.Prelude.{Err}
use Rattle.az_lin.specs.Affine.{AffineMap, Union, HasEntryDomain}
use Rattle.az_poly.specs.Answers.{IsExactly}
use Rattle.az_poly.specs.Operations.{domain_before}
use Rattle.az_poly.specs.declared.fault.PolyFault.{PolyFault}
use Rattle.rewriting.proofs.Locals.{reading-rows}
use Rattle.change_basis.proofs.rebasing.moved_variable.Goals as goal

pub image_by_inverse-requires-clause-rows : goal.image_by_inverse-requires-clause-rows
image_by_inverse-requires-clause-rows c =
    ap (λ (m : AffineMap). length m.rows) c.in_ok-back.ensures.ok ∙ (reading-rows c.args.params c.args.inverse.now ∙ c.requires.rows)

pub returns-in-Err-Entry : goal.returns-in-Err-Entry
returns-in-Err-Entry c fits =
    let domain : Union = c.args.variable.now.domain in
    let exact = subst (λ (e : PolyFault). IsExactly HasEntryDomain (domain_before c.in_ok-back.back domain) (Err e)) c.in-Err-Entry.field-0-is c.in-Err-Entry.ensures.exact in
    exact (subst (λ (m : AffineMap). HasEntryDomain (domain_before m domain)) (sym c.in_ok-back.ensures.ok) fits)
