use Rattle.std.proofs.Common.{◌≡◌, ◌∷◌, [], ◌++◌, map, All, ap, ap₂, sym, subst, ◌∙◌}
use Rattle.az_lin.specs.Affine.{Union}
use Rattle.az_lin.specs.Affine.{HasEntryDomain}
use Rattle.formula_refute.specs.Claims.{claim, IsInRange}
use Rattle.formula_refute.specs.Domains.{domain_claim}
use Rattle.domain_check.specs.Checks.{outside_of, reading_within}
use Rattle.domain_check.specs.Context.{in_force}
use Rattle.domain_check.proofs.Building.{handed_on, both_fit, first_fits, second_fits}
use Rattle.domain_check.proofs.read.outside.Goals as goal

pub returns-in-Ok-outside_formula : goal.returns-in-Ok-outside_formula
returns-in-Ok-outside_formula c =
    let within = reading_within c.args.program.now c.args.map.now c.args.variable.now in
    let read = c.in-Ok.ensures {u = tt} in
    let made = c.in-Ok-outside_formula.ensures {u = tt} in
    let one = ap (map claim) (c.in_ok-push-in-Ok-outside_formula.ensures.items ∙ ap (λ fs. fs ++ c.in-Ok-outside_formula.outside ∷ []) c.new-further.ensures.items) in
    let P : Union → Type 0 = λ domain. IsInRange (outside_of domain) in (
      c.in_ok-in_force-in-Ok-outside_formula.ensures ∙ ap (λ cs. in_force c.args.scope.now cs) (one ∙ ap (λ x. x ∷ []) (made.0 ∙ ap outside_of read.0)),
      both_fit within read.1 (subst P read.0 made.1),
    )

pub returns : goal.returns
returns c =
    let within = reading_within c.args.program.now c.args.map.now c.args.variable.now in
    handed_on (HasEntryDomain within) (All IsInRange (domain_claim within ∷ outside_of within ∷ [])) c.in-Err.fault (c.in-Err.ensures {u = tt}) (first_fits within)
