use Rattle.std.proofs.Common.{◌≡◌, ℕ, ◌<◌, ◌∙◌, ◌++◌, ◌∷◌, [], List, get_or, length, take, ap, ap₂, sym, arith}
use Rattle.std.proofs.lemmas.List.{take_more}
use Rattle.az_lin.specs.Affine.{Polyhedron}
use Rattle.formula_refute.specs.Claims.{claim}
use Rattle.formula_refute.specs.Cases.{cases, system_of, systems}
use Rattle.formula_refute.specs.declared.formula.Formula.{Formula}
use Rattle.formula_refute.proofs.CaseWidths.{system_at, length-systems}
use Rattle.formula_refute.proofs.systems.made_cases.Goals as goal

pub cases-preserved : goal.cases-preserved
cases-preserved c =
    let d = claim c.args.f.now in
    let all : List Polyhedron = systems c.args.width d in
    let system : Polyhedron = c.in_ok-system.field-0 in
    let number = c.cases.number in
    let counted = c.in-Some.ensures.2 in
    let count_is = counted.count_is in
    let count : length all ≡ length (cases d) = length-systems c.args.width d in
    let here : number < length all = omega (arith, count, count_is) in
    let value : system ≡ system_of c.args.width (get_or (cases d) number []) =
    c.in_ok-system.ensures.ok ∙ ap₂ (λ (w : ℕ) (f : Formula). system_of w (get_or (cases (claim f)) number [])) c.in-Some.ensures.0 c.in-Some.ensures.1 in
    let is = system_at c.args.width d number system (omega (arith, count, here)) value in
    c.in_ok-push.ensures.items ∙ ap (λ xs. xs ++ system ∷ []) c.cases.invariant ∙ ap (λ s. take number all ++ s ∷ []) is ∙ sym (take_more all number system here)
