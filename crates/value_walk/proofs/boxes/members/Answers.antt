use Rattle.value_walk.proofs.Scanned.{box-of, points-fault}
use Rattle.value_walk.proofs.boxes.members.Goals as goal

pub returns-in-Ok-clause-ok : goal.returns-in-Ok-clause-ok
returns-in-Ok-clause-ok c = box-of c.args.domain.now c.args.outer.now c.in-Ok.points c.in-Ok.ensures.answer

pub returns-in-Err-clause-cause : goal.returns-in-Err-clause-cause
returns-in-Err-clause-cause c = points-fault c.args.domain.now c.args.outer.now c.in-Err.fault c.in-Err.ensures.answer
