use Rattle.std.proofs.Common.{◌≡◌, ◌<◌, ◌≤◌, List, length, map, take, All, refl, sym, subst, ◌∙◌, true≢false, arith}
use Rattle.std.proofs.lemmas.List.{take_all, length-map}
use Rattle.std.proofs.lemmas.List.Elements.{All-more}
use Rattle.map_verify.specs.Formulas.{HasFewCases}
use Rattle.order_sets.specs.Orders.{StatedClaim}
use Rattle.order_sets.specs.Stated.{stated_claim}
use Rattle.map_verify.proofs.Placed.{claim_here, claim_within, claim_has}
use Rattle.map_verify.proofs.ready.are_few.Goals as goal

pub formulas-preserved : goal.formulas-preserved
formulas-preserved c =
    let list = c.args.formulas.now in
    let i = c.formulas.number in
    let stated = c.index-formulas-number.result in
    let here = c.formulas-test.true in
    let is = c.index-formulas-number.is in
    All-more HasFewCases (map stated_claim list) i (stated_claim stated) (claim_within list i stated here is) c.formulas.invariant
    (subst HasFewCases (claim_here list i stated here is) (c.has_few_cases.ensures.0 c.if-not-has_few_cases.false))

pub returns-then-not-has_few_cases : goal.returns-then-not-has_few_cases
returns-then-not-has_few_cases c =
    let list = c.args.formulas.now in
    let i = c.formulas.number in
    let stated = c.index-formulas-number.result in (
      λ t. absurd (true≢false (sym t)),
      λ all. sym c.if-not-has_few_cases.true ∙ c.has_few_cases.ensures.1 (claim_has list i stated c.formulas-test.true c.index-formulas-number.is HasFewCases all),
    )

pub returns : goal.returns
returns c =
    let all : List StatedClaim = map stated_claim c.args.formulas.now in
    let i = c.formulas.number in
    let count : length all ≡ length c.args.formulas.now = length-map c.args.formulas.now stated_claim in
    let past = c.formulas-test.false in
    let P : List StatedClaim → Type 0 = λ xs. All HasFewCases xs in
    (λ _. subst P (take_all i all (omega (arith, count, past))) c.formulas.invariant, λ _. refl)
