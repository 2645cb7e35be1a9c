-- What a program means.
--
-- The value of an expression at a point is a relation and no function, since no search of ours finds
-- the points of a reduction. It unfolds the equations of the variables that are read up to a depth, so
-- that it ends for equations that read one another in a circle too. A variable means a value at a point
-- if some depth gives it.
--
-- The columns of a point are the parameters, the equation's indices, and the extra indices of the
-- enclosing reductions from outside to inside. So an access `X[f]` at `z` reads X at the parameters of
-- `z`, its first columns, and the indices `f(z)`.
use Rattle.std.specs.Prelude.{◌≡◌, ℕ, zero, suc, ℤ, pos, List, ◌++◌, length, take, ◌⊎◌, fold, slice_get, find, ◌==◌, option_map, Option, MatchOption}
use Rattle.std.specs.List.{AllZip}
use Rattle.az_lin.specs.Affine.{Union, value_at, image_of, HoldsSome}
use Rattle.az_ast.specs.declared.op.Op.{Op}
use Rattle.az_ast.specs.declared.op.Op.TheVariants.{Sub}
use Rattle.az_ast.specs.declared.program.Role.{Role}
use Rattle.az_ast.specs.declared.program.Role.TheVariants.{Input, Output, Local}
use Rattle.az_ast.specs.declared.program.Equation.{Equation}
use Rattle.az_ast.specs.Operators.{wrapped, applied, identity}
use Rattle.az_ast.specs.Points.{AreMembers, IsPointOf}
use Rattle.az_ast.specs.System.{System}
use Rattle.az_ast.specs.Tables.{Tables, InputGives}
use Rattle.az_ast.specs.Term.{Term, constant, index, access, negation, binary, cases, reduction, Choices, none, choice, term}

-- which values an expression, or a read of a variable, has: at a variable's number, the parameters and
-- the indices
abbrev pub Values : Type 1
Values = List ℤ → ℤ → Type 0

abbrev pub Reads : Type 1
Reads = ℕ → List ℤ → List ℤ → ℤ → Type 0

-- the fold of the body's values over the members in increasing order, from the operator's identity
pub record FoldGives (op : Op) (extra : ℕ) (domain : Union) (body : Values) (z : List ℤ) (v : ℤ) : Type 0 where
  pub points : List (List ℤ)
  pub values : List ℤ
  pub members : AreMembers domain z extra points
  pub bodies : AllZip (λ k w. body (z ++ k) w) points values
  pub result : v ≡ fold (applied op) (identity op) values

-- the value of an expression, given the number of parameters and what its reads have. A case has the
-- value of its first branch that holds the point.
module _ (params : ℕ) (reads : Reads) where
  abbrev mutual
    pub TermGives : Term → List ℤ → ℤ → Type 0
    TermGives (constant c) z v = v ≡ c
    TermGives (index row) z v = v ≡ wrapped (value_at row z)
    TermGives (access variable f) z v = reads variable (take params z) (image_of f z) v
    TermGives (negation e) z v = (w : ℤ) × TermGives e z w × (v ≡ applied Sub (pos 0) w)
    TermGives (binary op a b) z v = (x : ℤ) × (y : ℤ) × TermGives a z x × TermGives b z y × (v ≡ applied op x y)
    TermGives (cases branches) z v = ChoiceGives branches z v
    TermGives (reduction op extra domain e) z v = FoldGives op extra domain (λ y w. TermGives e y w) z v

    pub ChoiceGives : Choices → List ℤ → ℤ → Type 0
    ChoiceGives none z v = ⊥
    ChoiceGives (choice domain e rest) z v = (HoldsSome domain z × TermGives e z v) ⊎ ((HoldsSome domain z → ⊥) × ChoiceGives rest z v)

-- a variable's equation, the first with its number, and its body
abbrev pub equation_of : List Equation → ℕ → Option Equation
equation_of equations x = find (λ equation. equation.variable == x) equations

abbrev pub body_of : List Equation → ℕ → Option Term
body_of equations x = option_map (λ equation. term equation.body) (equation_of equations x)

-- what a read has, if bodies have the given values: nothing but at a point of the variable, for an input
-- the value of its table, and for an output or local the value of its equation's body
abbrev pub RoleGives : Role → Type 0 → Type 0 → Type 0
RoleGives Input table body = table
RoleGives Output table body = body
RoleGives Local table body = body

abbrev pub IsInput : Role → Type 0
IsInput role = RoleGives role (Unit {0}) ⊥

abbrev pub ReadGives : System → Tables → (Term → Values) → Reads
ReadGives p tables bodies x params k v =
    MatchOption (slice_get p.variables x) ⊥ (λ variable.
    IsPointOf (length p.params) variable.domain params k ×
    RoleGives variable.role (InputGives tables x k v) (MatchOption (body_of p.equations x) ⊥ (λ body. bodies body (params ++ k) v)))

-- the value of an expression with fewer than so many equations unfolded, itself counted as one: none
-- with 0, and with one more if its reads have values with one less
abbrev pub ValueBelow : System → Tables → ℕ → Term → Values
ValueBelow p tables zero e z v = ⊥
ValueBelow p tables (suc depth) e z v =
    TermGives (length p.params) (ReadGives p tables (ValueBelow p tables depth)) e z v

-- the value of a read, and of an expression, with at most so many nested equations unfolded
abbrev pub ReadTo : System → Tables → ℕ → Reads
ReadTo p tables depth = ReadGives p tables (ValueBelow p tables depth)

abbrev pub ValueTo : System → Tables → ℕ → Term → Values
ValueTo p tables depth = TermGives (length p.params) (ReadTo p tables depth)

-- variable `x` means `v` at indices `k`, for these parameters and tables
abbrev pub Means : System → Tables → List ℤ → ℕ → List ℤ → ℤ → Type 0
Means p tables params x k v = (depth : ℕ) × ReadTo p tables depth x params k v
