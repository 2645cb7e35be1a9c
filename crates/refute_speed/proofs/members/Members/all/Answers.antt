use Rattle.az_lin.specs.Affine.{HasWidth}
use Rattle.formula_refute.proofs.MemberWidths.{rows_of_all}
use Rattle.refute_speed.proofs.members.Members.all.Goals as goal

pub returns : goal.returns
returns c = rows_of_all (HasWidth 10) c.self.inside.formulas c.self.invariant
