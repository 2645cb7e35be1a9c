use Rattle.expr_places_tests.proofs.Prefix.{prefix_certified}
use Rattle.expr_places_tests.proofs.laws.prefix_is_certified.Goals as goal

pub returns : goal.returns
returns c = prefix_certified
