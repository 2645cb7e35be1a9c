use Rattle.std.proofs.Common.{length}
use Rattle.grammar_rules.proofs.look_ahead.+chosen.Given as goal

abbrev pub decreases-chosen : goal.decreases-chosen
decreases-chosen g l = length l.table.now
