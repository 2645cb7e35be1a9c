-- The number of points that the evaluation of a program goes through.
--
-- The points of all outputs and locals count. At each of them the body points of each reduction count that the equation
-- evaluates there, and at each such body point those of the reductions nested in the body. Of a case only the branch that
-- holds the point is looked at. So a body that is evaluated at a point has one number there, and so has the program.
use Rattle.std.specs.Prelude.{◌≡◌, ℕ, ℤ, ◌+◌, ◌-◌, List, ◌++◌, length, ◌⊎◌, slice_get, MatchOption}
use Rattle.std.specs.List.{AllZip, sum, range_with_len}
use Rattle.az_lin.specs.Affine.{Union, HoldsSome}
use Rattle.az_ast.specs.Meaning.{body_of, RoleGives}
use Rattle.az_ast.specs.Points.{AreMembers}
use Rattle.az_ast.specs.System.{System}
use Rattle.az_ast.specs.Term.{Term, constant, index, access, negation, binary, cases, reduction, Choices, none, choice}

-- the members of a domain over a point, and what the body counts at each of them
pub record MembersCount (extra : ℕ) (domain : Union) (body : List ℤ → ℕ → Type 0) (z : List ℤ) (n : ℕ) : Type 0 where
  pub points : List (List ℤ)
  pub counts : List ℕ
  pub members : AreMembers domain z extra points
  pub bodies : AllZip (λ k c. body (z ++ k) c) points counts
  pub result : n ≡ length points + sum counts

abbrev mutual
  pub TermCounts : Term → List ℤ → ℕ → Type 0
  TermCounts (constant c) z n = n ≡ 0
  TermCounts (index row) z n = n ≡ 0
  TermCounts (access x f) z n = n ≡ 0
  TermCounts (negation e) z n = TermCounts e z n
  TermCounts (binary op a b) z n = (i : ℕ) × (j : ℕ) × TermCounts a z i × TermCounts b z j × (n ≡ i + j)
  TermCounts (cases branches) z n = ChoiceCounts branches z n
  TermCounts (reduction op extra domain e) z n = MembersCount extra domain (λ y m. TermCounts e y m) z n

  pub ChoiceCounts : Choices → List ℤ → ℕ → Type 0
  ChoiceCounts none z n = ⊥
  ChoiceCounts (choice domain e rest) z n = (HoldsSome domain z × TermCounts e z n) ⊎ ((HoldsSome domain z → ⊥) × ChoiceCounts rest z n)

-- an output or local counts its points and what its equation counts at them, an input nothing
abbrev pub VariableCounts : System → List ℤ → ℕ → ℕ → Type 0
VariableCounts p params x n =
    MatchOption (slice_get p.variables x) ⊥ (λ variable.
    RoleGives variable.role (n ≡ 0)
    (MatchOption (body_of p.equations x) ⊥ (λ body. MembersCount (variable.domain.width - length p.params) variable.domain (λ z c. TermCounts body z c) params n)))

abbrev pub IsNumberOfPoints : System → List ℤ → ℕ → Type 0
IsNumberOfPoints p params n =
    (counts : List ℕ) × AllZip (λ x c. VariableCounts p params x c) (range_with_len 0 (length p.variables)) counts × (n ≡ sum counts)

abbrev pub HasNumberOfPoints : System → List ℤ → Type 0
HasNumberOfPoints p params = (n : ℕ) × IsNumberOfPoints p params n
