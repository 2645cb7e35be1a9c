use Rattle.std.proofs.Common.{take, All}
use Rattle.std.specs.List.{flat_map}
use Rattle.expr_places.specs.Places.{places_of}
use Rattle.domain_check.specs.Stops.{FitsAt, AreFewAt}
use Rattle.domain_check.specs.Inner.Walked.{TellsMany}
use Rattle.domain_check.proofs.survey.survey.Given as goal

abbrev pub invariant-equations : goal.invariant-equations
invariant-equations l =
    All (FitsAt l.program) (flat_map (places_of l.program) (take l.equation-index l.equation-items))
    × TellsMany (All (AreFewAt l.program) (flat_map (places_of l.program) (take l.equation-index l.equation-items))) l.many
