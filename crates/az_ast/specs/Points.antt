-- Points in order, and the members of a domain over a point.
-- A point is the list of its coordinates, and points are ordered lexicographically. The members over
-- a point `z` are the further coordinates at which the domain holds `z` followed by them: a variable's
-- points at given parameters, and a reduction's points at given outer indices.
use Rattle.std.specs.Prelude.{◌≡◌, ℕ, ◌-◌, ℤ, List, [], ◌∷◌, ◌++◌, length, Contains}
use Rattle.std.specs.List.{AllByRecursion}
use Rattle.std.specs.declared.cmp.Ordering.TheVariants.{Less}
use Rattle.std.specs.Ordering.{int_cmp}
use Rattle.std.specs.Cmp.Lexicographic.{slice_cmp}
use Rattle.az_lin.specs.Affine.{Union, HoldsSome}

abbrev pub Precedes : List ℤ → List ℤ → Type 0
Precedes a b = slice_cmp int_cmp a b ≡ Less

-- strictly increasing: each point precedes all that follow it
abbrev pub IsIncreasing : List (List ℤ) → Type 0
IsIncreasing [] = Unit {0}
IsIncreasing (point ∷ points) = AllByRecursion (Precedes point) points × IsIncreasing points

-- `k` is a member over `z`, of `extra` coordinates
abbrev pub IsMember : Union → List ℤ → ℕ → List ℤ → Type 0
IsMember domain z extra k = (length k ≡ extra) × HoldsSome domain (z ++ k)

-- a point of a variable with this domain, in a program of `count` parameters: a number for each parameter,
-- and a member of the domain over them, of as many coordinates as the variable has indices
pub record IsPointOf (count : ℕ) (domain : Union) (params k : List ℤ) : Type 0 where
  pub parameters : length params ≡ count
  pub member : IsMember domain params (domain.width - count) k

-- exactly the members, each once, in order
pub record AreMembers (domain : Union) (z : List ℤ) (extra : ℕ) (points : List (List ℤ)) : Type 0 where
  pub increasing : IsIncreasing points
  pub only : AllByRecursion (IsMember domain z extra) points
  pub every : (k : List ℤ) → IsMember domain z extra k → Contains points k
