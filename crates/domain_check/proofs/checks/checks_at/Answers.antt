use Rattle.std.proofs.Common.{◌≡◌, ◌∷◌, [], map, get_or, All, List, ap, sym, subst, ◌∙◌}
use Rattle.az_lin.specs.Affine.{AffineMap}
use Rattle.expr_places.specs.Lent.{part_of}
use Rattle.expr_places.specs.Places.{Part, access_to}
use Rattle.formula_refute.specs.Claims.{Claim, IsInRange}
use Rattle.formula_refute.specs.Domains.{domain_claim}
use Rattle.domain_check.specs.Checks.{Checks, made_of, outside_of, reading_within}
use Rattle.domain_check.specs.Inner.Built.{checks_of}
use Rattle.domain_check.specs.Inner.Ready.{IsReadyPart}
use Rattle.domain_check.specs.declared.fault.CheckKind.TheVariants.{Outside}
use Rattle.domain_check.proofs.Building.{handed_on, access_checks, access_made}
use Rattle.domain_check.proofs.checks.checks_at.Goals as goal

pub returns-in_ok-alone-in-Ok : goal.returns-in_ok-alone-in-Ok
returns-in_ok-alone-in-Ok c =
    let p = c.args.program.now in
    let scope = c.args.place.now.scope in
    let x = c.in-Access.variable in
    let f = c.in-Access.map.now in
    let variable = c.index-variables-variable.result in
    let is = ap part_of c.in-Access.is in
    let declared = c.index-variables-variable.is ∙ ap (λ vs. get_or vs x variable) c.variables.ensures.value in
    let P : Part → Type 0 = λ part. IsReadyPart p scope part in
    let Q : List Claim → Type 0 = λ cs. All IsInRange cs in
    let ready = subst P is c.requires.part in
    let made = c.in-Ok.ensures {u = tt} in
    let F : Claim → Checks = λ claim. record { kind = Outside; width = scope.width; claims = claim ∷ [] } in (
      ap (map checks_of) c.in_ok-alone-in-Ok.ensures ∙ ap (λ checks. checks ∷ []) (c.in_ok-checks-in-Ok.ensures ∙ ap F made.0) ∙ sym (access_checks p scope (part_of c.args.place.now.part) x f variable is declared ready),
      subst Q (sym (access_made p scope (part_of c.args.place.now.part) x f variable is declared ready)) made.1,
    )

pub returns-in-Err : goal.returns-in-Err
returns-in-Err c =
    let p = c.args.program.now in
    let scope = c.args.place.now.scope in
    let x = c.in-Access.variable in
    let f = c.in-Access.map.now in
    let variable = c.index-variables-variable.result in
    let is = ap part_of c.in-Access.is in
    let declared = c.index-variables-variable.is ∙ ap (λ vs. get_or vs x variable) c.variables.ensures.value in
    let P : Part → Type 0 = λ part. IsReadyPart p scope part in
    let Q : List Claim → Type 0 = λ cs. All IsInRange cs in
    let ready = subst P is c.requires.part in
    let within = reading_within p f variable in
    handed_on (All IsInRange (domain_claim within ∷ outside_of within ∷ [])) (All IsInRange (made_of p (part_of c.args.place.now.part))) c.in-Err.fault (c.in-Err.ensures {u = tt})
    (λ all. subst Q (access_made p scope (part_of c.args.place.now.part) x f variable is declared ready) all)
