use Rattle.expr_places.proofs.Finiteness.{finite}
use Rattle.expr_places.proofs.laws.balanced_is_finite.Goals as goal

pub returns : goal.returns
returns c = finite
