use Rattle.std.proofs.Common.{[], take}
use Rattle.order_sets.specs.Made.{AreMade}
use Rattle.order_sets.specs.NotBefore.{less_after}
use Rattle.order_sets.proofs.pair.less.Given as goal

abbrev pub invariant-places : goal.invariant-places
invariant-places l = AreMade (less_after [] (take l.place l.us) (take l.place l.vs)) l.places
