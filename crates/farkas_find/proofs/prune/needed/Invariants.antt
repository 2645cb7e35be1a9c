use Rattle.farkas_find.proofs.Marks.{Marked}
use Rattle.farkas_find.proofs.prune.needed.Given as goal

-- the steps from this place on have been looked at
abbrev pub invariant-steps : goal.invariant-steps
invariant-steps l = Marked l.fn.target l.fn.given l.steps l.marks.items l.place

abbrev pub decreases-steps : goal.decreases-steps
decreases-steps l = l.place
