use Rattle.std.proofs.Common.{◌≡◌, length, ap, subst, ◌∙◌, Err}
use Rattle.az_lin.specs.Affine.{AffineMap}
use Rattle.az_lin.specs.Columns.{reading}
use Rattle.az_lin.specs.Affine.{HasEntryDomain}
use Rattle.az_poly.specs.Answers.{IsExactly}
use Rattle.az_poly.specs.Operations.{domain_before}
use Rattle.az_poly.specs.declared.fault.PolyFault.{PolyFault}
use Rattle.domain_check.proofs.Building.{reading_rows}
use Rattle.domain_check.proofs.read.reading_within.Goals as goal

pub preimage-requires-clause-rows : goal.preimage-requires-clause-rows
preimage-requires-clause-rows c =
    let params = c.args.program.now.params in
    let is = c.in_ok-read.ensures ∙ ap (λ names. reading (length names) c.args.map.now) c.params.ensures in
    ap (λ (f : AffineMap). length f.rows) is ∙ reading_rows (length params) c.args.map.now ∙ c.requires.rows

pub returns-in-Err-Entry : goal.returns-in-Err-Entry
returns-in-Err-Entry c =
    let P : AffineMap → Type 0 = λ f. HasEntryDomain (domain_before f c.args.variable.now.domain) → ⊥ in
    let is = c.in_ok-read.ensures ∙ ap (λ names. reading (length names) c.args.map.now) c.params.ensures in
    let Q : PolyFault → Type 0 = λ fault. IsExactly HasEntryDomain (domain_before c.in_ok-read.read c.args.variable.now.domain) (Err fault) in
    subst P is (subst Q c.in-Err-Entry.field-0-is c.in-Err-Entry.ensures.exact)
