use Rattle.formula_refute.specs.Claims.{claim}
use Rattle.formula_refute.specs.Cases.{systems}
use Rattle.formula_refute.proofs.OneFront.{case_front_once}
use Rattle.formula_refute.proofs.gated.decide_cases_gated.Goals as goal

pub returns-clause-only : goal.returns-clause-only
returns-clause-only g c = case_front_once (systems c.args.width (claim c.args.f.now)) c.shared_cases.result c.shared_cases.ensures
