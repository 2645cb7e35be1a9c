use Rattle.formula_refute.specs.Claims.{claim}
use Rattle.formula_refute.proofs.MemberWidths.{negation_width}
use Rattle.formula_refute.proofs.Promises.{negation_means}
use Rattle.formula_refute.proofs.negation.negate.Goals as goal

pub returns-clause-meaning : goal.returns-clause-meaning
returns-clause-meaning c = negation_means (claim c.args.f.now) c.opposite.result c.opposite.ensures

pub returns-clause-widths : goal.returns-clause-widths
returns-clause-widths c = negation_width (claim c.args.f.now) c.opposite.result c.opposite.ensures
