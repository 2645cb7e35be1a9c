use Rattle.std.proofs.Common.{◌≡◌, ◌+◌, ◌∷◌, [], get_or, map, take, ap, ◌∙◌, arith}
use Rattle.std.specs.Prelude.{string_bytes}
use Rattle.cert_text.specs.Lines.{step_line}
use Rattle.cert_text.proofs.Texts.{grown, steps_next}
use Rattle.cert_text.proofs.writing.push_steps.Goals as goal

pub steps-preserved : goal.steps-preserved
steps-preserved c =
    let steps = c.args.steps.now in
    let i = c.steps.step-index in
    grown (string_bytes c.args.text.now) (string_bytes c.steps.text) (string_bytes c.push_step.new.text) (map step_line (take i steps)) (step_line (get_or steps i _) ∷ []) (map step_line (take (i + 1) steps))
    c.steps.invariant c.in_ok-push_step.ensures (steps_next steps i _ c.steps-test.true)
