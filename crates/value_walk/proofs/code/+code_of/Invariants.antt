use Rattle.std.proofs.Common.{◌≡◌, take}
use Rattle.std.specs.Prelude.{map}
use Rattle.value_walk.proofs.Codes.{part_of, branch_part}
use Rattle.value_walk.proofs.code.+code_of.Given as goal

abbrev pub decreases-code_of : goal.decreases-code_of
decreases-code_of l = goal.size-code_of l

abbrev pub invariant-loop-branch : goal.invariant-loop-branch
invariant-loop-branch l = map part_of l.choices ≡ map branch_part (take l.branch-index l.branch-items)
