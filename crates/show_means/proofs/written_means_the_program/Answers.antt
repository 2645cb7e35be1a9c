use Rattle.show_means.proofs.SystemBack.{system_back}
use Rattle.show_means.proofs.written_means_the_program.Goals as goal

pub returns : goal.returns
returns c = system_back
