use Rattle.std.proofs.Common.{rules, append_assoc}
use Rattle.session_state.proofs.coordinates.push_coordinate.Goals as goal

pub returns : goal.returns
returns c = search (rules, append_assoc)
