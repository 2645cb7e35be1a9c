use Rattle.target_map.proofs.Orders.{certified_gives_order}
use Rattle.target_map.proofs.laws.certified_gives_order.Goals as goal

pub returns : goal.returns
returns c = certified_gives_order
