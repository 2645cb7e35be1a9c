use Rattle.std.proofs.Common.{arith}
use Rattle.loop_scan.proofs.Firsts.{all_passed}
use Rattle.loop_scan.proofs.merge.pass.Goals as goal

pub returns-clause-points : goal.returns-clause-points
returns-clause-points c =
    all_passed c.args.point.now c.args.heads.now c.heads.heads (omega arith)
    (λ k d h. c.heads.invariant.gone k d (omega arith))
