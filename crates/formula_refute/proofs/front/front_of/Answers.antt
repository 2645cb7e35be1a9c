use Rattle.std.proofs.Common.{List, drop, subst, sym, arith}
use Rattle.az_lin.specs.declared.step.Derivation.{Derivation}
use Rattle.formula_refute.specs.Fronts.{IsFront}
use Rattle.formula_refute.specs.Inner.Verdicts.{AnswersFirst}
use Rattle.formula_refute.specs.declared.verdict.Verdict.{Verdict}
use Rattle.formula_refute.specs.declared.front.Stop.TheVariants.{End}
use Rattle.formula_refute.proofs.FirstSystem.{refutes_first, stops_first}
use Rattle.formula_refute.proofs.FrontSteps.{front_more, front_with, front_ends}
use Rattle.formula_refute.proofs.front.front_of.Goals as goal

pub returns-in-Stopped : goal.returns-in-Stopped
returns-in-Stopped g c =
    let systems = g.C.CaseList.list c.args.cases.now in
    let number = c.cases.number in
    let V : Verdict → Type 0 = λ v. AnswersFirst (drop number systems) v in
    let F : List Derivation → Type 0 = λ ds. IsFront systems (record { derivations = ds; stop = c.in-Stopped.stop }) in
    subst F (sym c.from_vec-derivations.ensures)
    (front_with systems c.cases.derivations.items number (omega arith) c.cases.invariant c.in-Stopped.stop
    (stops_first (drop number systems) c.in-Stopped.stop (subst V c.in-Stopped.is c.in_ok-derivation.ensures.ok)))

pub cases-preserved : goal.cases-preserved
cases-preserved g c =
    let systems = g.C.CaseList.list c.args.cases.now in
    let number = c.cases.number in
    let V : Verdict → Type 0 = λ v. AnswersFirst (drop number systems) v in
    front_more systems c.cases.derivations.items number (omega arith) c.cases.invariant c.push.new.self.items c.in-Refuted.derivation (omega arith)
    (refutes_first (drop number systems) c.in-Refuted.derivation (subst V c.in-Refuted.is c.in_ok-derivation.ensures.ok)) c.in_ok-push-in-Refuted.ensures.items

pub returns : goal.returns
returns g c =
    let systems = g.C.CaseList.list c.args.cases.now in
    let F : List Derivation → Type 0 = λ ds. IsFront systems (record { derivations = ds; stop = End }) in
    subst F (sym c.from_vec.ensures) (front_ends systems c.cases.derivations.items c.cases.number (omega arith) c.cases.invariant (omega arith))
