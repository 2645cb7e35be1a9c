use Rattle.std.proofs.Common.{List, ℕ, ap}
use Rattle.std.specs.Prelude.{Ok}
use Rattle.program_commands.proofs.commands.check_program.Goals as goal

pub returns : goal.returns
returns c = (c.in_ok-opened.field-0.now, c.in_ok-opened.ensures.answer, ap (λ (t : List ℕ). Ok (record { session = c.args.session.now; text = t })) c.new.ensures)
