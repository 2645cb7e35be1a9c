use Rattle.std.proofs.Common.{◌≡◌, ◌≤◌, ◌<◌, ℕ, List, length, map, get_or, arith, ap, sym, subst, ◌∙◌, Ok, Err}
use Rattle.std.proofs.lemmas.List.{length-map}
use Rattle.az_lin.specs.Affine.{Polyhedron}
use Rattle.formula_refute.specs.Cases.{systems, most_systems}
use Rattle.formula_refute.specs.Claims.{claim, IsOver}
use Rattle.formula_refute.specs.declared.formula.Formula.{Formula}
use Rattle.domain_check.specs.Cases.{Case, cases_of, cases_of_claim}
use Rattle.domain_check.specs.Inner.Built.{checks_of}
use Rattle.domain_check.specs.Inner.Walked.{DecidesCases}
use Rattle.domain_check.proofs.Grown.{mapped_at}
use Rattle.domain_check.proofs.Loops.{goes_more, goes_stop, goes_end, piece_few}
use Rattle.domain_check.proofs.decide.decide_checks.Goals as goal

pub decide_formula-requires-clause-widths : goal.decide_formula-requires-clause-widths
decide_formula-requires-clause-widths c =
    let checks = c.args.checks.now in
    let items = checks.formulas.items in
    let value = c.deref-formula-items.ensures.value in
    let H : List Formula → Type 0 = λ xs. c.formulas.formula-index < length xs in
    let here = subst H value c.formulas-test.true in
    let is = c.formula-item.is ∙ ap (λ xs. get_or xs c.formulas.formula-index c.formula-item.result) value in
    mapped_at (IsOver checks.width) claim items c.formulas.formula-index c.formula-item.result here is c.requires.ready.1

pub decide_formula-requires-clause-few : goal.decide_formula-requires-clause-few
decide_formula-requires-clause-few c =
    let checks = c.args.checks.now in
    let items = checks.formulas.items in
    let value = c.deref-formula-items.ensures.value in
    let H : List Formula → Type 0 = λ xs. c.formulas.formula-index < length xs in
    let here = subst H value c.formulas-test.true in
    let is = c.formula-item.is ∙ ap (λ xs. get_or xs c.formulas.formula-index c.formula-item.result) value in
    let all : length (cases_of (checks_of checks)) ≤ most_systems = c.requires.few in
    let part = piece_few claim (cases_of_claim checks.kind checks.width) items c.formulas.formula-index c.formula-item.result here is in
    let F : Polyhedron → Case = λ system. record { kind = checks.kind; system = system } in
    omega (arith, all, part, length-map (systems checks.width (claim c.formula-item.result)) F)

pub returns-in-Err : goal.returns-in-Err
returns-in-Err c =
    let checks = c.args.checks.now in
    let items = checks.formulas.items in
    let value = c.deref-formula-items.ensures.value in
    let H : List Formula → Type 0 = λ xs. c.formulas.formula-index < length xs in
    let here = subst H value c.formulas-test.true in
    let is = c.formula-item.is ∙ ap (λ xs. get_or xs c.formulas.formula-index c.formula-item.result) value in
    let cases = cases_of_claim checks.kind checks.width in
    let D : ℕ → Type 0 = λ owner. DecidesCases owner c.formulas.at.next (cases (claim c.formula-item.result)) (Err c.in-Err.fault) in
    goes_stop claim cases items c.formulas.formula-index c.args.at.variable c.args.at.next c.formulas.at.next (cases_of (checks_of checks)) c.formulas.invariant.1
    c.formula-item.result c.in-Err.fault here is (subst D c.formulas.invariant.0 (c.in-Err.ensures {u = tt}))

pub formulas-preserved : goal.formulas-preserved
formulas-preserved c =
    let checks = c.args.checks.now in
    let items = checks.formulas.items in
    let value = c.deref-formula-items.ensures.value in
    let H : List Formula → Type 0 = λ xs. c.formulas.formula-index < length xs in
    let here = subst H value c.formulas-test.true in
    let is = c.formula-item.is ∙ ap (λ xs. get_or xs c.formulas.formula-index c.formula-item.result) value in
    let cases = cases_of_claim checks.kind checks.width in
    let D : ℕ → Type 0 = λ owner. DecidesCases owner c.formulas.at.next (cases (claim c.formula-item.result)) (Ok c.in-Ok.next) in (
      c.formulas.invariant.0,
      goes_more claim cases items c.formulas.formula-index c.args.at.variable c.args.at.next c.formulas.at.next (cases_of (checks_of checks)) c.formulas.invariant.1
          c.formula-item.result c.in-Ok.next here is (subst D c.formulas.invariant.0 (c.in-Ok.ensures {u = tt})),
    )

pub returns : goal.returns
returns c =
    let checks = c.args.checks.now in
    let value = c.deref-formula-items.ensures.value in
    let same = ap (λ (xs : List Formula). length xs) value in
    let end : c.formulas.formula-index ≡ length checks.formulas.items = omega (arith, same) in
    goes_end claim (cases_of_claim checks.kind checks.width) checks.formulas.items c.formulas.formula-index c.args.at.variable c.args.at.next c.formulas.at.next (cases_of (checks_of checks))
    c.formulas.invariant.1 end
