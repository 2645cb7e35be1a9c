use Rattle.formula_refute.proofs.OneFront.{given_once}
use Rattle.formula_refute.proofs.gated.decide_front_gated.Goals as goal

pub returns-clause-only : goal.returns-clause-only
returns-clause-only g c = given_once c.args.systems.now c.shared_front.result c.shared_front.ensures
