use Rattle.std.proofs.Common.{length}
use Rattle.grammar_rules.proofs.look_ahead.+has.Given as goal

abbrev pub decreases-has : goal.decreases-has
decreases-has l = length l.set.now
