-- Which parts make a program, and why others are refused.
--
-- The limits come first, in their order. Then the items are looked at: item 0 is the header, the
-- declarations and then the equations follow. The first item with a fault is answered, with its first
-- kind; an output or local without an equation is answered last, at its declaration.
use Rattle.std.specs.Prelude.{◌≡◌, ℕ, suc, ◌+◌, ◌-◌, ◌==◌, nat_lt, Bool, true, false, not, ◌&&◌, ◌||◌, if◌then◌else◌, List, [], ◌∷◌, ◌++◌, length, map, flat_map, slice_get, Option, Some, None, option_map, All}
use Rattle.std.specs.Option.{option_or, option_map_or}
use Rattle.std.specs.List.{list_all, list_any}
use Rattle.std.specs.Char.{is_ascii_digit}
use Rattle.std.specs.Str.{bytes_eq}
use Rattle.az_lin.specs.Affine.{AffineMap, Union}
use Rattle.az_lin.specs.declared.limit.Limit.TheVariants.{Names, Columns, Size, Disjuncts}
use Rattle.az_ast.specs.declared.fault.ShapeFault.{ShapeFault}
use Rattle.az_ast.specs.declared.fault.ShapeFault.TheVariants.{Shape, Limit}
use Rattle.az_ast.specs.declared.fault.ShapeKind.{ShapeKind}
use Rattle.az_ast.specs.declared.fault.ShapeKind.TheVariants.{Reserved, TwiceName, Arity, InputEquation, TwoEquations, BadReduce, NoEquation}
use Rattle.az_ast.specs.declared.op.Op.{Op}
use Rattle.az_ast.specs.declared.op.Op.TheVariants.{Add, Sub, Mul, And, Or, Xor, Max, Min}
use Rattle.az_ast.specs.declared.program.Equation.{Equation}
use Rattle.az_ast.specs.declared.program.Role.{Role}
use Rattle.az_ast.specs.declared.program.Role.TheVariants.{Input, Output, Local}
use Rattle.az_ast.specs.declared.program.Variable.{Variable}
use Rattle.az_ast.specs.Nodes.{nodes}
use Rattle.az_ast.specs.Placed.{IsPlaced, IsConjunction}
use Rattle.az_ast.specs.Rows.{HasRows}
use Rattle.az_ast.specs.System.{System}
use Rattle.az_ast.specs.Term.{Term, constant, index, access, negation, binary, cases, reduction, term}
use Rattle.az_ast.specs.Walks.{parts, domains, extra_under}

-- the answer of the first row whose test holds
abbrev pub first_of : {A : Type 0} → List (Bool × A) → Option A
first_of [] = None
first_of (row ∷ rest) = if row.0 then Some row.1 else first_of rest

-- the limits

-- the number of a variable's indices, after so many parameters
abbrev pub indices : ℕ → Variable → ℕ
indices params variable = variable.domain.width - params

-- a test of the variable with this number
abbrev pub of_variable : List Variable → (Variable → Bool) → ℕ → Bool
of_variable variables test x = option_map_or test (slice_get variables x) false

-- the parameter domain, those of the variables and those in the equations
abbrev pub all_domains : System → List Union
all_domains p = p.pdom ∷ (map (λ variable. variable.domain) p.variables ++ flat_map (λ equation. domains (term equation.body)) p.equations)

abbrev pub has_many_names : System → Bool
has_many_names p = nat_lt 256 (length p.variables) || nat_lt 8 (length p.params)

abbrev pub stands_under_many : ℕ → List Variable → Equation → Bool
stands_under_many params variables equation =
    of_variable variables (λ variable. nat_lt 16 (indices params variable + extra_under (term equation.body))) equation.variable

abbrev pub has_many_columns : System → Bool
has_many_columns p =
    let params = length p.params in
    list_any (λ variable. nat_lt 8 (indices params variable)) p.variables || list_any (stands_under_many params p.variables) p.equations

abbrev pub has_many_nodes : System → Bool
has_many_nodes p = list_any (λ equation. nat_lt 512 (nodes (term equation.body))) p.equations

abbrev pub has_many_disjuncts : System → Bool
has_many_disjuncts p = list_any (λ domain. nat_lt 8 (length domain.disjuncts)) (all_domains p)

abbrev pub limit_of : System → Option ShapeFault
limit_of p =
    first_of
    ((has_many_names p, Limit Names) ∷ (has_many_columns p, Limit Columns) ∷ (has_many_nodes p, Limit Size)
    ∷ (has_many_disjuncts p, Limit Disjuncts) ∷ [])

-- the kinds of one item

-- `i` followed by digits alone, of which there is at least one
abbrev pub is_index_name : List ℕ → Bool
is_index_name [] = false
is_index_name (i ∷ []) = false
is_index_name (i ∷ digit ∷ digits) = i == 105 && list_all is_ascii_digit (digit ∷ digits)

abbrev pub has_twice : List (List ℕ) → Bool
has_twice [] = false
has_twice (name ∷ names) = list_any (bytes_eq name) names || has_twice names

abbrev pub header_kind : List (List ℕ) → Option ShapeKind
header_kind params = first_of ((list_any is_index_name params, Reserved) ∷ (has_twice params, TwiceName) ∷ [])

-- a declaration after others
abbrev pub declaration_kind : List Variable → Variable → Option ShapeKind
declaration_kind earlier variable =
    first_of
    ((is_index_name variable.name, Reserved) ∷ (list_any (λ other. bytes_eq other.name variable.name) earlier, TwiceName) ∷ [])

abbrev pub arity_differs : ℕ → List Variable → ℕ → AffineMap → Bool
arity_differs params variables x f = of_variable variables (λ variable. not (length f.rows == indices params variable)) x

abbrev pub has_other_arity : ℕ → List Variable → Term → Bool
has_other_arity params variables (constant c) = false
has_other_arity params variables (index row) = false
has_other_arity params variables (access x f) = arity_differs params variables x f
has_other_arity params variables (negation e) = false
has_other_arity params variables (binary op a b) = false
has_other_arity params variables (cases branches) = false
has_other_arity params variables (reduction op extra domain e) = false

abbrev pub is_input : Role → Bool
is_input Input = true
is_input Output = false
is_input Local = false

abbrev pub is_sub : Op → Bool
is_sub Add = false
is_sub Sub = true
is_sub Mul = false
is_sub And = false
is_sub Or = false
is_sub Xor = false
is_sub Max = false
is_sub Min = false

abbrev pub reduces_by_sub : Term → Bool
reduces_by_sub (constant c) = false
reduces_by_sub (index row) = false
reduces_by_sub (access x f) = false
reduces_by_sub (negation e) = false
reduces_by_sub (binary op a b) = false
reduces_by_sub (cases branches) = false
reduces_by_sub (reduction op extra domain e) = is_sub op

-- an equation after others
abbrev pub equation_kind : ℕ → List Variable → List Equation → Equation → Option ShapeKind
equation_kind params variables earlier equation =
    first_of
    ((list_any (has_other_arity params variables) (parts (term equation.body)), Arity)
    ∷ (of_variable variables (λ variable. is_input variable.role) equation.variable, InputEquation)
    ∷ (list_any (λ other. other.variable == equation.variable) earlier, TwoEquations)
    ∷ (list_any reduces_by_sub (parts (term equation.body)), BadReduce) ∷ [])

-- an output or local without an equation
abbrev pub lacks_equation : List Equation → ℕ → Variable → Bool
lacks_equation equations x variable = not (is_input variable.role) && not (list_any (λ equation. equation.variable == x) equations)

-- the items in order

abbrev pub kinds_after : {A : Type 0} → (List A → A → Option ShapeKind) → List A → List A → List (Option ShapeKind)
kinds_after kind earlier [] = []
kinds_after kind earlier (item ∷ rest) = kind earlier item ∷ kinds_after kind (earlier ++ item ∷ []) rest

abbrev pub item_kinds : System → List (Option ShapeKind)
item_kinds p =
    header_kind p.params ∷ (kinds_after declaration_kind [] p.variables ++ kinds_after (equation_kind (length p.params) p.variables) [] p.equations)

abbrev pub missing_kinds : List Equation → ℕ → List Variable → List (Option ShapeKind)
missing_kinds equations x [] = []
missing_kinds equations x (variable ∷ rest) = first_of ((lacks_equation equations x variable, NoEquation) ∷ []) ∷ missing_kinds equations (suc x) rest

-- the first kind there is, of items that are numbered from `item` on
abbrev pub first_kind : ℕ → List (Option ShapeKind) → Option ShapeFault
first_kind item [] = None
first_kind item (kind ∷ rest) = option_or (option_map (λ k. Shape k item) kind) (first_kind (suc item) rest)

abbrev pub shape_of : System → Option ShapeFault
shape_of p = option_or (first_kind 0 (item_kinds p)) (first_kind 1 (missing_kinds p.equations 0 p.variables))

-- the refusal, or none of a program
abbrev pub refusal_of : System → Option ShapeFault
refusal_of p = option_or (limit_of p) (shape_of p)

-- a program: parts that are placed, with rows of their place's width, and not refused
pub record IsProgram (p : System) : Type 0 where
  pub placed : IsPlaced p
  pub rows : HasRows p
  pub accepted : refusal_of p ≡ None

-- every domain in it has one disjunct
abbrev pub IsPlain : System → Type 0
IsPlain p = All IsConjunction (all_domains p)
