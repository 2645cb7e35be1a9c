use Rattle.std.proofs.Common.{refl}
use Rattle.command_listing.proofs.listing.end_turn.Goals as goal

pub returns-in-Err : goal.returns-in-Err
returns-in-Err g c = rw c.in-Err.is (c.refuse.result, refl, c.refuse.ensures)
