-- The laws of this crate, as statements.
use Rattle.std.specs.Prelude.{◌↔◌, ℕ, ℤ, List, All}
use Rattle.az_lin.specs.Affine.{Affine, Union}
use Rattle.az_ast.specs.Certified.{IsFinite, OneHolds, IsCertified}
use Rattle.az_ast.specs.Shapes.{IsProgram}
use Rattle.az_ast.specs.System.{System}
use Rattle.az_ast.specs.Term.{Choices}
use Rattle.az_ast.specs.Walks.{branch_domains}
use Rattle.expr_places.specs.Branches.{HasOneBranch}
use Rattle.expr_places.specs.Directions.{IsBalanced}
use Rattle.expr_places.specs.Reached.{IsSoundFrom}

-- no overlap and no gap: exactly one branch
abbrev pub BranchesAreOne : Type 0
BranchesAreOne = (branches : Choices) (z : List ℤ) → HasOneBranch (branch_domains branches) z ↔ OneHolds branches z

-- where no direction goes on for ever the points are finite
abbrev pub BalancedIsFinite : Type 0
BalancedIsFinite = (around : List Affine) (domain : Union) (outer extra : ℕ) → IsBalanced around domain outer extra → IsFinite domain outer extra

-- a certified program is sound wherever its equations are evaluated
abbrev pub CertifiedIsSoundFrom : Type 0
CertifiedIsSoundFrom = (p : System) → IsProgram p → IsCertified p → All (IsSoundFrom p) p.equations
