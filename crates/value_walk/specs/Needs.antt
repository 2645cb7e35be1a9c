-- What the evaluation of an expression at a point needs, wherever it goes: rows of the point's width, a branch that holds it,
-- and whatever is asked of each access and each reduction that is reached.
use Rattle.std.specs.Prelude.{◌≡◌, ◌≤◌, ℕ, ℤ, ◌+◌, List, ◌++◌, length, take}
use Rattle.az_lin.specs.Affine.{Union, image_of, HoldsSome}
use Rattle.az_ast.specs.Dependences.{Hits}
use Rattle.az_ast.specs.Operators.{FoldsFromIdentity}
use Rattle.az_ast.specs.Points.{IsMember}
use Rattle.az_ast.specs.Term.{Term, constant, index, access, negation, binary, cases, reduction, Choices, none, choice}

module _ (params : ℕ) (answered : Hits) (asked : ℕ → Union → List ℤ → Type 0) where
  abbrev mutual
    pub IsReady : Term → List ℤ → Type 0
    IsReady (constant c) z = Unit {0}
    IsReady (index row) z = length row.coefs ≡ length z
    IsReady (access x f) z = (f.width ≡ length z) × (length f.rows ≤ 8) × answered x (take params z) (image_of f z)
    IsReady (negation e) z = IsReady e z
    IsReady (binary op a b) z = IsReady a z × IsReady b z
    IsReady (cases branches) z = AreReady branches z
    IsReady (reduction op extra domain e) z =
        FoldsFromIdentity op × (domain.width ≡ length z + extra) × (domain.width ≤ 64) × asked extra domain z ×
        ((k : List ℤ) → IsMember domain z extra k → IsReady e (z ++ k))

    pub AreReady : Choices → List ℤ → Type 0
    AreReady none z = ⊥
    AreReady (choice domain e rest) z =
        (domain.width ≡ length z) × (HoldsSome domain z → IsReady e z) × ((HoldsSome domain z → ⊥) → AreReady rest z)
