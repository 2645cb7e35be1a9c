use Rattle.farkas_find.specs.Inner.Winners.{AreWinners}
use Rattle.farkas_find.proofs.winners.winners_of.Given as goal

abbrev pub invariant-places : goal.invariant-places
invariant-places l = AreWinners l.rows l.place l.winners
