use Rattle.std.proofs.Common.{length}
use Rattle.grammar_rules.proofs.words.+class_from.Given as goal

abbrev pub decreases-class_from : goal.decreases-class_from
decreases-class_from l = length l.reserved.now
