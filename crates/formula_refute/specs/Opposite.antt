-- The negation of a formula: `all_of` and `any_of` change places, and of a row e there is -e - 1, which is at least 0 at
-- the whole points where e is not.
use Rattle.az_lin.specs.Negation.{negated}
use Rattle.formula_refute.specs.Claims.{Claim, atom, all_of, any_of, Claims, none, more}

abbrev mutual
  pub opposite : Claim → Claim
  opposite (atom row) = atom (negated row)
  opposite (all_of cs) = any_of (opposites cs)
  opposite (any_of cs) = all_of (opposites cs)

  pub opposites : Claims → Claims
  opposites none = none
  opposites (more c cs) = more (opposite c) (opposites cs)
