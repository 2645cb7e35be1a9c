use Rattle.show_again.proofs.Again.{shown_is_the_program}
use Rattle.show_again.proofs.shown_is_the_program.Goals as goal

pub returns : goal.returns
returns c = shown_is_the_program
