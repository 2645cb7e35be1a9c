use Rattle.value_walk.proofs.Evaluations.{own-refused, own-unrefused}
use Rattle.value_walk.proofs.points.points_of.Goals as goal

pub returns-in-Ok-clause-only : goal.returns-in-Ok-clause-only
returns-in-Ok-clause-only c = own-unrefused c.args.program.now c.args.params.now c.in-Ok.ensures.only

pub returns-in-Err-clause-cause : goal.returns-in-Err-clause-cause
returns-in-Err-clause-cause c = own-refused c.args.program.now c.args.params.now c.in-Err.fault c.in-Err.ensures.cause
