use Rattle.std.proofs.Common.{arith}
use Rattle.value_walk.proofs.Codes.{cases-made}
use Rattle.value_walk.proofs.code.+code_of.Goals as goal

pub returns-after-loop-branch : goal.returns-after-loop-branch
returns-after-loop-branch t c =
    cases-made c.loop-branch.choices c.as_slice-branch-items.result.now c.in-Cases.branches c.args.e.now c.loop-branch.branch-index c.in-Cases.is c.as_slice-branch-items.ensures (omega arith) c.loop-branch.invariant
