-- Closed chains of points, and the reductions that are evaluated at a point.
use Rattle.std.specs.Prelude.{◌≡◌, ℕ, ℤ, List, [], ◌∷◌, ◌++◌, length, slice_get, MatchOption}
use Rattle.az_lin.specs.Affine.{Union}
use Rattle.az_ast.specs.Dependences.{PointReads, Evaluates}
use Rattle.az_ast.specs.Meaning.{body_of, RoleGives}
use Rattle.az_ast.specs.Points.{IsPointOf}
use Rattle.az_ast.specs.System.{System}
use Rattle.value_walk.specs.declared.refusal.PointName.{PointName}

-- the equation of one point reads the other
abbrev pub Reads : System → List ℤ → PointName → PointName → Type 0
Reads p params a b = PointReads p params a.variable a.point b.variable b.point

-- one point reads another by way of those between them, in order
abbrev pub ReadsAlong : System → List ℤ → PointName → List PointName → PointName → Type 0
ReadsAlong p params first [] last = Reads p params first last
ReadsAlong p params first (next ∷ rest) last = Reads p params first next × ReadsAlong p params next rest last

-- each point reads the next, and the last one the first
abbrev pub IsClosedChain : System → List ℤ → List PointName → Type 0
IsClosedChain p params [] = ⊥
IsClosedChain p params (first ∷ rest) = ReadsAlong p params first rest first

-- one reduction, by its number of indices, its domain and the outer point
pub record IsReduction (extra : ℕ) (domain : Union) (outer : List ℤ) (e : ℕ) (d : Union) (z : List ℤ) : Type 0 where
  pub same_extra : e ≡ extra
  pub same_domain : d ≡ domain
  pub same_outer : z ≡ outer

-- a reduction is evaluated where the equation of point `k` of the output or local `x` is
abbrev pub PointEvaluates : System → List ℤ → ℕ → List ℤ → ℕ → Union → List ℤ → Type 0
PointEvaluates p params x k extra domain outer =
    MatchOption (slice_get p.variables x) ⊥ (λ variable.
    IsPointOf (length p.params) variable.domain params k ×
    RoleGives variable.role ⊥ (MatchOption (body_of p.equations x) ⊥ (λ body. Evaluates (IsReduction extra domain outer) body (params ++ k))))
