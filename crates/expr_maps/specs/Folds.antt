-- The fold of values over points with a property, in increasing order.
use Rattle.std.specs.Prelude.{◌≡◌, ℤ, List, Contains, fold}
use Rattle.std.specs.List.{AllByRecursion, AllZip}
use Rattle.az_ast.specs.Meaning.{Values}
use Rattle.az_ast.specs.Points.{IsIncreasing}

pub record FoldOver (f : ℤ → ℤ → ℤ) (unit : ℤ) (IsPoint : List ℤ → Type 0) (body : Values) (v : ℤ) : Type 0 where
  pub points : List (List ℤ)
  pub values : List ℤ
  pub increasing : IsIncreasing points
  pub only : AllByRecursion IsPoint points
  pub every : (k : List ℤ) → IsPoint k → Contains points k
  pub bodies : AllZip body points values
  pub result : v ≡ fold f unit values

-- an operator whose folds can be split and joined
pub record IsFoldable (f : ℤ → ℤ → ℤ) (unit : ℤ) : Type 0 where
  pub associative : (a b c : ℤ) → f (f a b) c ≡ f a (f b c)
  pub commutative : (a b : ℤ) → f a b ≡ f b a
  pub unit_twice : f unit unit ≡ unit
