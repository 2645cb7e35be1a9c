use Rattle.az_text.proofs.LumpLaws.{lumps_are_read}
use Rattle.az_text.proofs.laws.lumps_are_read.Goals as goal

pub returns : goal.returns
returns c = lumps_are_read
