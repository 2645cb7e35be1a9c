use Rattle.std.proofs.Common.{◌≡◌, ◌≤◌, List, length, subst, ap, arith}
use Rattle.az_lin.specs.Affine.{Polyhedron}
use Rattle.formula_refute.specs.Claims.{Claim, claim}
use Rattle.formula_refute.specs.Cases.{cases, systems}
use Rattle.formula_refute.proofs.CaseWidths.{length-systems}
use Rattle.formula_refute.proofs.FrontSteps.{front_within}
use Rattle.formula_refute.proofs.refutation.decide_cases.Goals as goal

pub answered-requires : goal.answered-requires
answered-requires c =
    let made = c.in-Some.cases in
    let all : List Polyhedron = systems made.width (claim made.formula.now) in
    let within : length c.in_ok-front_of.field-0.derivations ≤ length all = front_within all c.in_ok-front_of.field-0 c.in_ok-front_of.ensures in
    let count : length all ≡ length (cases (claim made.formula.now)) = length-systems made.width (claim made.formula.now) in
    let counted = c.in-Some.ensures.2 in
    let same : length (cases (claim made.formula.now)) ≡ length (cases (claim c.args.f.now)) = ap (λ f. length (cases (claim f))) c.in-Some.ensures.1 in
    let is = counted.count_is in
    let few = counted.few in
    omega (arith, within, count, same, is, few)
