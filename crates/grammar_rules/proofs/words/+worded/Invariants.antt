use Rattle.std.proofs.Common.{length}
use Rattle.grammar_rules.proofs.words.+worded.Given as goal

abbrev pub decreases-worded : goal.decreases-worded
decreases-worded g l = length l.table.now
