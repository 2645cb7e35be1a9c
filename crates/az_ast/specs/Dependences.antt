-- What the evaluation of an expression at a point reaches.
--
-- Of a case the first branch that holds the point is evaluated and no other, and the body of a reduction at
-- each member of its domain. An access that is evaluated reads the variable at the parameters of the point,
-- its first columns, and at the indices that its map gives. So the equation of a point reads other points:
-- a closed chain of such reads has no meaning, and a run loads what its equation reads, in order.
use Rattle.std.specs.Prelude.{◌≡◌, ℕ, ℤ, List, [], ◌∷◌, ◌++◌, length, take, ◌⊎◌, slice_get, MatchOption, flat_map}
use Rattle.std.specs.List.{AllZip}
use Rattle.az_lin.specs.Affine.{Union, image_of, HoldsSome}
use Rattle.az_ast.specs.Meaning.{body_of, RoleGives}
use Rattle.az_ast.specs.Points.{IsMember, AreMembers, IsPointOf}
use Rattle.az_ast.specs.System.{System}
use Rattle.az_ast.specs.Term.{Term, constant, index, access, negation, binary, cases, reduction, Choices, none, choice}

-- at a variable's number, the parameters and the indices
abbrev pub Hits : Type 1
Hits = ℕ → List ℤ → List ℤ → Type 0

-- an access that is evaluated at the point reads one of these points
module _ (params : ℕ) (hits : Hits) where
  abbrev mutual
    pub TermReads : Term → List ℤ → Type 0
    TermReads (constant c) z = ⊥
    TermReads (index row) z = ⊥
    TermReads (access x f) z = hits x (take params z) (image_of f z)
    TermReads (negation e) z = TermReads e z
    TermReads (binary op a b) z = TermReads a z ⊎ TermReads b z
    TermReads (cases branches) z = ChoiceReads branches z
    TermReads (reduction op extra domain e) z = (k : List ℤ) × IsMember domain z extra k × TermReads e (z ++ k)

    pub ChoiceReads : Choices → List ℤ → Type 0
    ChoiceReads none z = ⊥
    ChoiceReads (choice domain e rest) z = (HoldsSome domain z × TermReads e z) ⊎ ((HoldsSome domain z → ⊥) × ChoiceReads rest z)

-- one point of a variable
pub record IsRead (variable : ℕ) (params indices : List ℤ) (x : ℕ) (ps k : List ℤ) : Type 0 where
  pub same_variable : x ≡ variable
  pub same_parameters : ps ≡ params
  pub same_indices : k ≡ indices

-- the equation of point `k` of the output or local `x` reads point `l` of `y`, at these parameters
abbrev pub PointReads : System → List ℤ → ℕ → List ℤ → ℕ → List ℤ → Type 0
PointReads p params x k y l =
    MatchOption (slice_get p.variables x) ⊥ (λ variable.
    IsPointOf (length p.params) variable.domain params k ×
    RoleGives variable.role ⊥ (MatchOption (body_of p.equations x) ⊥ (λ body. TermReads (length p.params) (IsRead y params l) body (params ++ k))))

-- a reduction that is evaluated at a point: with so many extra indices over the domain, at the outer point
module _ (hits : ℕ → Union → List ℤ → Type 0) where
  abbrev mutual
    pub Evaluates : Term → List ℤ → Type 0
    Evaluates (constant c) z = ⊥
    Evaluates (index row) z = ⊥
    Evaluates (access x f) z = ⊥
    Evaluates (negation e) z = Evaluates e z
    Evaluates (binary op a b) z = Evaluates a z ⊎ Evaluates b z
    Evaluates (cases branches) z = EvaluatesBranch branches z
    Evaluates (reduction op extra domain e) z =
        hits extra domain z ⊎ ((k : List ℤ) × IsMember domain z extra k × Evaluates e (z ++ k))

    pub EvaluatesBranch : Choices → List ℤ → Type 0
    EvaluatesBranch none z = ⊥
    EvaluatesBranch (choice domain e rest) z = (HoldsSome domain z × Evaluates e z) ⊎ ((HoldsSome domain z → ⊥) × EvaluatesBranch rest z)

-- the points read, as variable and indices, in order of evaluation: the left operand before the right, and
-- the body of a reduction at its members in increasing order
abbrev pub Loads : Type 0
Loads = List (ℕ × List ℤ)

pub record FoldLoads (extra : ℕ) (domain : Union) (body : List ℤ → Loads → Type 0) (z : List ℤ) (loads : Loads) : Type 0 where
  pub points : List (List ℤ)
  pub parts : List Loads
  pub members : AreMembers domain z extra points
  pub bodies : AllZip (λ k part. body (z ++ k) part) points parts
  pub result : loads ≡ flat_map (λ part. part) parts

abbrev mutual
  pub TermLoads : Term → List ℤ → Loads → Type 0
  TermLoads (constant c) z loads = loads ≡ []
  TermLoads (index row) z loads = loads ≡ []
  TermLoads (access x f) z loads = loads ≡ (x, image_of f z) ∷ []
  TermLoads (negation e) z loads = TermLoads e z loads
  TermLoads (binary op a b) z loads = (left : Loads) × (right : Loads) × TermLoads a z left × TermLoads b z right × (loads ≡ left ++ right)
  TermLoads (cases branches) z loads = ChoiceLoads branches z loads
  TermLoads (reduction op extra domain e) z loads = FoldLoads extra domain (λ y part. TermLoads e y part) z loads

  pub ChoiceLoads : Choices → List ℤ → Loads → Type 0
  ChoiceLoads none z loads = ⊥
  ChoiceLoads (choice domain e rest) z loads = (HoldsSome domain z × TermLoads e z loads) ⊎ ((HoldsSome domain z → ⊥) × ChoiceLoads rest z loads)
