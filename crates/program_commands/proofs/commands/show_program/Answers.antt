use Rattle.std.proofs.Common.{List, ℕ, ap, ◌∙◌}
use Rattle.std.specs.Prelude.{Ok}
use Rattle.alphabets_show.specs.Shown.{shown}
use Rattle.program_commands.proofs.commands.show_program.Goals as goal

pub returns-in-Ok : goal.returns-in-Ok
returns-in-Ok c = (
  c.in_ok-loaded.loaded.now,
  c.in_ok-loaded.ensures.answer,
  ap (λ (t : List ℕ). Ok (record { session = c.args.session.now; text = t })) (c.in-Ok.ensures.text ∙ ap shown c.program.ensures.value),
)
