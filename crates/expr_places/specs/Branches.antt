-- The branches of a case, by their domains: no two hold a point together, and the point is in none's gap.
use Rattle.std.specs.Prelude.{ℤ, List, [], ◌∷◌}
use Rattle.std.specs.List.{AllByRecursion}
use Rattle.az_lin.specs.Affine.{Union, HoldsSome}

-- no two of the domains hold the point
abbrev pub NoTwoHold : List Union → List ℤ → Type 0
NoTwoHold [] z = Unit {0}
NoTwoHold (domain ∷ rest) z = AllByRecursion (λ other. HoldsSome domain z → HoldsSome other z → ⊥) rest × NoTwoHold rest z

-- some domain holds the point: it isn't so that none does
abbrev pub NoneHold : List Union → List ℤ → Type 0
NoneHold domains z = AllByRecursion (λ domain. HoldsSome domain z → ⊥) domains

pub record HasOneBranch (domains : List Union) (z : List ℤ) : Type 0 where
  pub no_overlap : NoTwoHold domains z
  pub no_gap : NoneHold domains z → ⊥
