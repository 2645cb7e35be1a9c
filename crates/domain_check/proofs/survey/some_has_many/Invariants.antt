use Rattle.std.proofs.Common.{map, take, All}
use Rattle.domain_check.specs.Inner.Built.{checks_of}
use Rattle.domain_check.specs.Inner.Walked.{TellsMany}
use Rattle.domain_check.specs.Stops.{IsFew}
use Rattle.domain_check.proofs.survey.some_has_many.Given as goal

abbrev pub invariant-list : goal.invariant-list
invariant-list l = TellsMany (All IsFew (map checks_of (take l.checks-index l.list))) l.many
