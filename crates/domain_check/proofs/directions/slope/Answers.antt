use Rattle.std.proofs.Common.{◌≡◌, ◌++◌, ◌∷◌, [], ◌∙◌, ap, arith, to_z, of_z}
use Rattle.std.specs.Int.{w128}
use Rattle.std.proofs.lemmas.Int.{to_z-of_z, fits_signed_from_abs}
use Rattle.az_lin.specs.Affine.{IsEntry}
use Rattle.domain_check.proofs.Grown.{slope_next, All-pushed}
use Rattle.domain_check.proofs.directions.slope.Goals as goal

pub columns-preserved : goal.columns-preserved
columns-preserved c =
    let coef = c.coef_at.result in
    let entry : IsEntry coef = c.coef_at.ensures.range in
    let whole : to_z w128 (of_z w128 coef) ≡ coef = to_z-of_z w128 coef (fits_signed_from_abs w128 coef (omega arith)) in
    let pushed : c.push.new.self.items ≡ c.columns.coefs.items ++ coef ∷ [] = c.in_ok-push.ensures.items ∙ ap (λ x. c.columns.coefs.items ++ x ∷ []) whole in (
      slope_next c.args.row.now c.args.own.outer c.columns.column c.columns.coefs.items c.push.new.self.items coef c.columns.invariant.0 c.coef_at.ensures.value pushed,
      All-pushed IsEntry c.columns.coefs.items c.push.new.self.items coef pushed c.columns.invariant.1 entry,
    )
