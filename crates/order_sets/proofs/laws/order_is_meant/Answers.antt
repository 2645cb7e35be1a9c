use Rattle.order_sets.proofs.Meaning.{order_is_meant}
use Rattle.order_sets.proofs.laws.order_is_meant.Goals as goal

pub returns : goal.returns
returns c = order_is_meant
