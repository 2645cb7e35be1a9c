-- What holds at each place of an expression that is reached from a point: below a branch if its domain
-- holds, and below a reduction at all its points.
use Rattle.std.specs.Prelude.{ℕ, ℤ, List, ◌++◌, length, take, slice_get, MatchOption, unsigned_abs, ◌≤◌, ◌≡◌}
use Rattle.std.specs.List.{AllByRecursion}
use Rattle.az_lin.specs.Affine.{AffineMap, HoldsSome, image_of}
use Rattle.az_ast.specs.Certified.{ReadsWithin}
use Rattle.az_ast.specs.Points.{IsMember}
use Rattle.az_ast.specs.System.{System}
use Rattle.az_ast.specs.Term.{Term, constant, index, access, negation, binary, cases, reduction, Choices, none, choice, term}
use Rattle.az_ast.specs.Walks.{branch_domains}
use Rattle.az_ast.specs.declared.program.Equation.{Equation}
use Rattle.expr_places.specs.Branches.{HasOneBranch}
use Rattle.expr_places.specs.Places.{Part, case_over, reduction_over, access_to}

module _ (IsGood : Part → List ℤ → Type 0) where
  abbrev mutual
    pub AtPlaces : Term → List ℤ → Type 0
    AtPlaces (constant c) z = Unit {0}
    AtPlaces (index row) z = Unit {0}
    AtPlaces (access x f) z = IsGood (access_to x f) z
    AtPlaces (negation e) z = AtPlaces e z
    AtPlaces (binary op a b) z = AtPlaces a z × AtPlaces b z
    AtPlaces (cases branches) z = IsGood (case_over (branch_domains branches)) z × AtBranches branches z
    AtPlaces (reduction op extra domain e) z = IsGood (reduction_over extra domain) z × ((k : List ℤ) → IsMember domain z extra k → AtPlaces e (z ++ k))

    pub AtBranches : Choices → List ℤ → Type 0
    AtBranches none z = Unit {0}
    AtBranches (choice domain e rest) z = (HoldsSome domain z → AtPlaces e z) × AtBranches rest z

-- at each access: of the variable's number, the map and the point where it stands
abbrev pub OnAccess : (ℕ → AffineMap → List ℤ → Type 0) → Part → List ℤ → Type 0
OnAccess IsGood (case_over domains) z = Unit {0}
OnAccess IsGood (reduction_over extra domain) z = Unit {0}
OnAccess IsGood (access_to x f) z = IsGood x f z

abbrev pub AtAccesses : (ℕ → AffineMap → List ℤ → Type 0) → Term → List ℤ → Type 0
AtAccesses IsGood = AtPlaces (OnAccess IsGood)

-- at each read: of the variable's number, the parameters and the indices that are read
abbrev pub AtReads : ℕ → (ℕ → List ℤ → List ℤ → Type 0) → Term → List ℤ → Type 0
AtReads params IsGood = AtAccesses (λ x f z. IsGood x (take params z) (image_of f z))

-- what certification gives at a point: one branch, finitely many points, a read within the domain
abbrev pub IsSoundHere : System → Part → List ℤ → Type 0
IsSoundHere p (case_over domains) z = HasOneBranch domains z
IsSoundHere p (reduction_over extra domain) z = (bound : ℕ) × ((k : List ℤ) → IsMember domain z extra k → AllByRecursion (λ c. unsigned_abs c ≤ bound) k)
IsSoundHere p (access_to x f) z = ReadsWithin p x f z

-- at each point of a variable's domain its equation is sound wherever it is evaluated
abbrev pub IsSoundFrom : System → Equation → Type 0
IsSoundFrom p equation =
    MatchOption (slice_get p.variables equation.variable) ⊥ (λ variable.
    (z : List ℤ) → length z ≡ variable.domain.width → HoldsSome p.pdom (take p.pdom.width z) → HoldsSome variable.domain z → AtPlaces (IsSoundHere p) (term equation.body) z)
