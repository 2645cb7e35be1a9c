use Rattle.az_text.proofs.Pieces.{pieces_are_read}
use Rattle.az_text.proofs.laws.pieces_are_read.Goals as goal

pub returns : goal.returns
returns c = pieces_are_read
