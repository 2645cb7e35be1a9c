use Rattle.std.proofs.Common.{length}
use Rattle.program_names.proofs.expressions.+number.Given as goal

abbrev pub decreases-number : goal.decreases-number
decreases-number l = length l.variables.now
