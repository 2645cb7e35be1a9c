use Rattle.value_walk.proofs.SlotLemmas.{box-fault}
use Rattle.value_walk.proofs.reader.Reader.body_points.Goals as goal

pub returns-in-Err-clause-cause : goal.returns-in-Err-clause-cause
returns-in-Err-clause-cause c =
    box-fault c.args.self.now.scene.now c.args.self.now.slot c.args.extra c.args.domain.now c.args.z.now c.in-Err.fault c.requires.evaluated c.in-Err.ensures.cause
