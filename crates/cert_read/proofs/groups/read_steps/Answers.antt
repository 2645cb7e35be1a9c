use Rattle.std.proofs.Common.{◌≡◌, ◌++◌, ◌∷◌, [], List, All, map, sym, subst}
use Rattle.std.proofs.lemmas.List.Elements.{All-push}
use Rattle.az_lin.specs.declared.step.Step.{Step}
use Rattle.cert_text.specs.Lines.{step_line, IsSpelledStep}
use Rattle.cert_read.proofs.Takings.{one_taken, steps_more}
use Rattle.cert_read.proofs.groups.read_steps.Goals as goal

pub steps-preserved : goal.steps-preserved
steps-preserved c =
    let lines = c.args.lines.now in
    let steps : List Step = c.steps.steps.items in
    let next : List Step = c.push.new.self.items in
    let step = c.in-Some.step in
    let pushed : next ≡ steps ++ step ∷ [] = c.in_ok-push.ensures.items in
    record {
      taken = one_taken lines c.args.from (map step_line steps) c.steps.end c.steps.invariant.taken (step_line step) (map step_line next) c.in-Some.ensures.1 (steps_more steps next step pushed);
      spelled = subst (All IsSpelledStep) (sym pushed) (All-push IsSpelledStep steps step c.steps.invariant.spelled c.in-Some.ensures.0);
    }
