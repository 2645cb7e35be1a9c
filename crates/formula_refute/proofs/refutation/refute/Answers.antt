use Rattle.formula_refute.specs.Claims.{claim}
use Rattle.formula_refute.specs.Cases.{systems}
use Rattle.formula_refute.proofs.Promises.{yes_is_false, no_is_open}
use Rattle.formula_refute.proofs.refutation.refute.Goals as goal

pub returns-clause-yes : goal.returns-clause-yes
returns-clause-yes c = yes_is_false c.args.width (claim c.args.f.now) c.decide_cases.result c.decide_cases.ensures

pub returns-clause-no : goal.returns-clause-no
returns-clause-no c = no_is_open (systems c.args.width (claim c.args.f.now)) c.decide_cases.result c.decide_cases.ensures
