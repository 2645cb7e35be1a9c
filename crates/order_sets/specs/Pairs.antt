-- The rows of a pair by name.
use Rattle.std.specs.Prelude.{List}
use Rattle.az_lin.specs.Affine.{Affine}
use Rattle.formula_refute.specs.Claims.{Claim}
use Rattle.order_sets.specs.NotBefore.{both_ways, exceeds, is_within, apart}
use Rattle.order_sets.specs.declared.pair.Pair.{Pair}
use Rattle.order_sets.specs.declared.pair.Pair.TheVariants.{BothWays, Exceeds, IsWithin, Apart}

abbrev pub rows_of : Pair → Affine → Affine → List Claim
rows_of BothWays = both_ways
rows_of Exceeds = exceeds
rows_of IsWithin = is_within
rows_of Apart = apart
