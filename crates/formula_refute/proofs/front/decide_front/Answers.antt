use Rattle.formula_refute.proofs.OneFront.{given_once}
use Rattle.formula_refute.proofs.front.decide_front.Goals as goal

pub returns-clause-only : goal.returns-clause-only
returns-clause-only c = given_once c.args.systems.now c.front_of.result c.front_of.ensures
