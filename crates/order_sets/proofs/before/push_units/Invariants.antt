use Rattle.std.proofs.Common.{List, ◌++◌, take}
use Rattle.formula_refute.specs.Claims.{Claim}
use Rattle.order_sets.specs.Made.{AreMade}
use Rattle.order_sets.specs.NotBefore.{unit_at_least}
use Rattle.order_sets.proofs.before.push_units.Given as goal

abbrev pub invariant-places : goal.invariant-places
invariant-places l = (cs : List Claim) → AreMade cs l.initial.members → AreMade (cs ++ unit_at_least (take l.place l.sizes) (take l.place l.us) (take l.place l.vs)) l.members
