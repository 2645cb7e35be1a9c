use Rattle.std.proofs.Common.{◌≡◌, ◌++◌, [], ◌∷◌, List, length, get_or, pos, ap, subst, arith, length-append}
use Rattle.std.proofs.lemmas.List.{get_or_default}
use Rattle.std.proofs.lemmas.List.Elements.{All-push, All-same}
use Rattle.az_lin.specs.Affine.{Affine, HasWidth}
use Rattle.az_lin.specs.Derivation.{row_of}
use Rattle.az_lin.specs.declared.step.Step.{Step}
use Rattle.farkas_check.specs.Verdict.{IsGood}
use Rattle.farkas_check.proofs.Derivations.{rows_after-more, AllSteps-more}
use Rattle.farkas_check.proofs.judge.judge.Goals as goal

pub steps-preserved : goal.steps-preserved
steps-preserved c =
    let rows = c.args.system.now.rows in
    let all = c.as_slice-steps.result.now in
    let made = c.steps.made.items in
    let row = c.in-Some.row in
    let blank : Step = record { a = pos 0; i = 0; b = pos 0; j = 0; g = pos 0 } in
    let step : Step = get_or all c.steps.number blank in
    let is : step ≡ get_or all c.steps.number step = get_or_default all c.steps.number blank step c.steps-test.true in
    let pushed = c.in_ok-push-in-Some.ensures.items in
    let P : List Affine → Type 0 = λ ms. IsGood c.args.rule (rows ++ ms) step × (row ≡ row_of (rows ++ ms) step) in
    let some = subst P c.as_slice.ensures.value (rw c.in-Some.is at c.in_ok-row.ensures.exact) in
    let wide : HasWidth c.args.system.now.width row = rw c.in-Some.is at c.in_ok-row.ensures.width in
    record {
      rows = rows_after-more rows all c.steps.number step made c.push.new.self.items row c.steps-test.true is c.steps.invariant.rows some.1 pushed;
      good = AllSteps-more (IsGood c.args.rule) rows all c.steps.number step made c.steps-test.true is c.steps.invariant.rows c.steps.invariant.good some.0;
      widths = All-same (HasWidth c.args.system.now.width) c.push.new.self.items (made ++ row ∷ []) pushed (All-push (HasWidth c.args.system.now.width) made row c.steps.invariant.widths wide);
      count = omega (arith, ap length pushed, length-append made (row ∷ []));
    }
