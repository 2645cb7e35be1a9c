use Rattle.std.proofs.Common.{map, take, All}
use Rattle.expr_places.specs.Lent.{place_of}
use Rattle.domain_check.specs.Stops.{FitsAt, AreFewAt}
use Rattle.domain_check.specs.Inner.Walked.{TellsMany}
use Rattle.domain_check.proofs.survey.survey_equation.Given as goal

abbrev pub invariant-each : goal.invariant-each
invariant-each l =
    All (FitsAt l.program) (map place_of (take l.place-index l.place-items))
    × TellsMany (All (AreFewAt l.program) (map place_of (take l.place-index l.place-items))) l.many
