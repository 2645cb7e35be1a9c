use Rattle.std.proofs.Common.{sym, ap, ◌∙◌, length}
use Rattle.session_state.proofs.session.change.Goals as goal

pub returns-clause-sound : goal.returns-clause-sound
returns-clause-sound c = λ same old. record {
  settings = record { each = old.settings.each ∙ ap length (sym same); coordinates = old.settings.coordinates };
  mapping = c.new.ensures.fits c.args.program;
  verified = tt;
}
