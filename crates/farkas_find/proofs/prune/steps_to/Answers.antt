use Rattle.std.proofs.Common.{length, ap, ◌∙◌, List, Bool}
use Rattle.farkas_find.proofs.Pruning.{length-needed}
use Rattle.farkas_find.proofs.prune.steps_to.Goals as goal

pub needed_steps-requires-clause-flags : goal.needed_steps-requires-clause-flags
needed_steps-requires-clause-flags c =
    ap (λ (bs : List Bool). length bs) (c.as_slice.ensures.value ∙ c.in_ok-flags.ensures) ∙ length-needed c.args.target c.args.given c.args.steps.now
