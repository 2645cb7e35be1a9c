use Rattle.std.proofs.Common.{◌≡◌, ◌<◌, List, [], Option, Some, drop, sym, subst, arith}
use Rattle.az_lin.specs.declared.step.Derivation.{Derivation}
use Rattle.formula_refute.specs.Inner.Shares.{AnswersEvery}
use Rattle.formula_refute.specs.Inner.Verdicts.{AnswersFirst}
use Rattle.formula_refute.specs.declared.front.Stop.{Stop}
use Rattle.formula_refute.specs.declared.front.Stop.TheVariants.{End}
use Rattle.formula_refute.specs.declared.verdict.Verdict.{Verdict}
use Rattle.formula_refute.proofs.FirstSystem.{stops_first, nothing_left}
use Rattle.formula_refute.proofs.ShareSteps.{share_ends}
use Rattle.formula_refute.proofs.share.Share.fill.Goals as goal

pub returns-in-Ok-Stopped : goal.returns-in-Ok-Stopped
returns-in-Ok-Stopped g c =
    let systems = g.C.CaseList.list c.args.cases.now in
    let rest = drop c.loop-place.place systems in
    let V : Verdict → Type 0 = λ v. AnswersFirst rest v in
    let answers = subst V c.in-Ok-Stopped.field-0-is c.in-Ok-Stopped.ensures.ok in
    share_ends c.args.workers (drop c.args.worker systems) rest c.loop-place.self.derivations.items (Some c.in-Ok-Stopped.stop) c.loop-place.invariant.0
    (stops_first rest c.in-Ok-Stopped.stop answers)

pub returns-in-Err : goal.returns-in-Err
returns-in-Err g c =
    let systems = g.C.CaseList.list c.args.cases.now in
    let rest = drop c.loop-place.place systems in
    let P : Option Stop → Type 0 = λ end. AnswersEvery c.args.workers rest [] end in
    share_ends c.args.workers (drop c.args.worker systems) rest c.loop-place.self.derivations.items c.loop-place.self.end c.loop-place.invariant.0
    (subst P (sym c.loop-place.invariant.1) tt)

pub returns : goal.returns
returns g c =
    let systems = g.C.CaseList.list c.args.cases.now in
    share_ends c.args.workers (drop c.args.worker systems) (drop c.loop-place.place systems) c.loop-place.self.derivations.items (Some End) c.loop-place.invariant.0
    (nothing_left systems c.loop-place.place (omega arith))

pub returns-in-Err-push_back : goal.returns-in-Err-push_back
returns-in-Err-push_back g c =
    let systems = g.C.CaseList.list c.args.cases.now in
    let rest = drop c.loop-place.place systems in
    let P : Option Stop → Type 0 = λ end. AnswersEvery c.args.workers rest [] end in
    let Q : List Derivation → Type 0 = λ ds. AnswersEvery c.args.workers (drop c.args.worker systems) ds c.loop-place.self.end in
    let kept : c.push_back.new.self.items ≡ c.loop-place.self.derivations.items = c.in-Err-push_back.ensures.items in
    subst Q (sym kept)
    (share_ends c.args.workers (drop c.args.worker systems) rest c.loop-place.self.derivations.items c.loop-place.self.end c.loop-place.invariant.0
    (subst P (sym c.loop-place.invariant.1) tt))
