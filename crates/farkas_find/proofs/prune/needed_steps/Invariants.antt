use Rattle.farkas_find.proofs.Renumbering.{Renumbered}
use Rattle.farkas_find.proofs.prune.needed_steps.Given as goal

-- the steps before this place, and the numbers of their rows
abbrev pub invariant-steps : goal.invariant-steps
invariant-steps l = Renumbered l.fn.given l.flags l.steps l.kept.items l.numbers.items l.next l.place
