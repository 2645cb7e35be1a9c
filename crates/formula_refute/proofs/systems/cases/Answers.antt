use Rattle.formula_refute.specs.Claims.{claim}
use Rattle.formula_refute.proofs.Promises.{cases_mean, cases_widths, cases_few}
use Rattle.formula_refute.proofs.systems.cases.Goals as goal

pub returns-clause-meaning : goal.returns-clause-meaning
returns-clause-meaning c = cases_mean c.args.width (claim c.args.f.now) c.made_cases.result c.made_cases.ensures

pub returns-clause-widths : goal.returns-clause-widths
returns-clause-widths c = cases_widths c.args.width (claim c.args.f.now) c.made_cases.result c.made_cases.ensures

pub returns-clause-few : goal.returns-clause-few
returns-clause-few c = cases_few c.args.width (claim c.args.f.now) c.made_cases.result c.made_cases.ensures
