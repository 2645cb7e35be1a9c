use Rattle.std.proofs.Common.{◌≡◌, take, map}
use Rattle.std.specs.Prelude.{All}
use Rattle.formula_refute.specs.Claims.{claim}
use Rattle.formula_refute.proofs.Opposites.{opposite_of, IsOppositeInRange}
use Rattle.formula_refute.proofs.negation.+opposite.Given as goal

abbrev pub decreases-opposite : goal.decreases-opposite
decreases-opposite l = goal.size-opposite l

abbrev pub invariant-all : goal.invariant-all
invariant-all l =
    (map claim l.opposites ≡ map opposite_of (take l.member-index l.member-items)) × All IsOppositeInRange (take l.member-index l.member-items)

abbrev pub invariant-any : goal.invariant-any
invariant-any l =
    (map claim l.opposites ≡ map opposite_of (take l.member-index l.member-items)) × All IsOppositeInRange (take l.member-index l.member-items)
