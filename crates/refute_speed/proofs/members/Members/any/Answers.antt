use Rattle.az_lin.specs.Affine.{HasWidth}
use Rattle.formula_refute.proofs.MemberWidths.{rows_of_any}
use Rattle.refute_speed.proofs.members.Members.any.Goals as goal

pub returns : goal.returns
returns c = rows_of_any (HasWidth 10) c.self.inside.formulas c.self.invariant
