use Rattle.std.proofs.Common.{length}
use Rattle.program_names.proofs.piece_tests.+repeats.Given as goal

abbrev pub decreases-repeats : goal.decreases-repeats
decreases-repeats l = length l.more.now
