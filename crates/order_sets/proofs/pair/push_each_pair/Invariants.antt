use Rattle.std.proofs.Common.{List, ◌++◌, take}
use Rattle.formula_refute.specs.Claims.{Claim}
use Rattle.order_sets.specs.Made.{AreMade}
use Rattle.order_sets.specs.NotBefore.{each_pair}
use Rattle.order_sets.specs.Pairs.{rows_of}
use Rattle.order_sets.proofs.pair.push_each_pair.Given as goal

abbrev pub invariant-places : goal.invariant-places
invariant-places l = (cs : List Claim) → AreMade cs l.initial.members → AreMade (cs ++ each_pair (rows_of l.pair) (take l.place l.us) (take l.place l.vs)) l.members
