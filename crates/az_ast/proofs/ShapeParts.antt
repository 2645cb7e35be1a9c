-- The refusal of a program's parts, part by part.
use Rattle.std.proofs.Common.{◌≡◌, ℕ, suc, ◌+◌, ◌<◌, ◌≤◌, List, [], ◌∷◌, ◌++◌, length, get_or, Bool, true, false, cond, ◌||◌, Option, Some, None, refl, sym, ap, ◌∙◌, arith, add-zero}
use Rattle.std.specs.Prelude.{All, option_map, nat_lt, MatchOption, slice_get, ◌==◌}
use Rattle.std.specs.Option.{option_or}
use Rattle.std.specs.List.{list_any, AllByRecursion}
use Rattle.std.proofs.lemmas.Bool.{ltb-false}
use Rattle.az_lin.specs.declared.limit.Limit.TheVariants.{Names, Columns, Size, Disjuncts}
use Rattle.std.proofs.lemmas.Option.{slice_get_within}
use Rattle.az_ast.specs.declared.fault.ShapeFault.{ShapeFault}
use Rattle.az_ast.specs.declared.fault.ShapeFault.TheVariants.{Shape, Limit}
use Rattle.az_ast.specs.declared.fault.ShapeKind.{ShapeKind}
use Rattle.az_ast.specs.declared.program.Equation.{Equation}
use Rattle.az_ast.specs.declared.program.Variable.{Variable}
use Rattle.az_ast.specs.Placed.{IsPlaced, IsAtWidth}
use Rattle.az_ast.specs.Shapes.{first_kind, kinds_after, missing_kinds, declaration_kind, equation_kind, header_kind, shape_of, limit_of, has_many_names, has_many_columns, has_many_nodes, has_many_disjuncts, has_other_arity, of_variable, is_input, reduces_by_sub, first_of}
use Rattle.az_ast.specs.System.{System}
use Rattle.az_ast.specs.Term.{term}
use Rattle.az_ast.specs.Walks.{parts}
use Rattle.az_ast.specs.declared.fault.ShapeKind.TheVariants.{Arity, InputEquation, TwoEquations, BadReduce}

pub or_assoc : {A : Type 0} (a b c : Option A) → option_or (option_or a b) c ≡ option_or a (option_or b c)
or_assoc None b c = refl
or_assoc (Some x) b c = refl

pub first_kind-append : (n : ℕ) (xs ys : List (Option ShapeKind)) → first_kind n (xs ++ ys) ≡ option_or (first_kind n xs) (first_kind (n + length xs) ys)
first_kind-append n [] ys = ap (λ m. first_kind m ys) (sym (add-zero n))
first_kind-append n (kind ∷ xs) ys =
    let here = option_map (λ k. Shape k n) kind in
    let at : suc n + length xs ≡ n + suc (length xs) = omega arith in
    ap (option_or here) (first_kind-append (suc n) xs ys ∙ ap (λ m. option_or (first_kind (suc n) xs) (first_kind m ys)) at)
    ∙ sym (or_assoc here (first_kind (suc n) xs) (first_kind (n + suc (length xs)) ys))

pub length-kinds_after : {A : Type 0} (kind : List A → A → Option ShapeKind) (earlier xs : List A) → length (kinds_after kind earlier xs) ≡ length xs
length-kinds_after kind earlier [] = refl
length-kinds_after kind earlier (x ∷ xs) = ap suc (length-kinds_after kind (earlier ++ x ∷ []) xs)

-- the header, the declarations, the equations, and then the equations that are missing
pub shape_parts : (p : System) →
    shape_of p
    ≡ option_or (option_map (λ k. Shape k 0) (header_kind p.params))
    (option_or (first_kind 1 (kinds_after declaration_kind [] p.variables))
    (option_or (first_kind (1 + length p.variables) (kinds_after (equation_kind (length p.params) p.variables) [] p.equations))
    (first_kind 1 (missing_kinds p.equations 0 p.variables))))
shape_parts p =
    let header = option_map (λ k. Shape k 0) (header_kind p.params) in
    let declared = kinds_after declaration_kind [] p.variables in
    let defined = kinds_after (equation_kind (length p.params) p.variables) [] p.equations in
    let missing = first_kind 1 (missing_kinds p.equations 0 p.variables) in
    ap (λ o. option_or (option_or header o) missing)
    (first_kind-append 1 declared defined ∙ ap (λ n. option_or (first_kind 1 declared) (first_kind (1 + n) defined)) (length-kinds_after declaration_kind [] p.variables))
    ∙ (or_assoc header (option_or (first_kind 1 declared) (first_kind (1 + length p.variables) defined)) missing
    ∙ ap (option_or header) (or_assoc (first_kind 1 declared) (first_kind (1 + length p.variables) defined) missing))

-- the number of an equation's variable is below the count
pub numbers_declared : (p : System) → IsPlaced p → All (λ (e : Equation). e.variable < length p.variables) p.equations
numbers_declared p placed k d h = by (slice_get p.variables (get_or p.equations k d).variable) refl (placed.bodies k d h)
  where
    by : (o : Option Variable) → slice_get p.variables (get_or p.equations k d).variable ≡ o →
        MatchOption o ⊥ (λ variable. IsAtWidth (length p.variables) (term (get_or p.equations k d).body) variable.domain.width) → (get_or p.equations k d).variable < length p.variables
    by None e m = absurd m
    by (Some v) e m = slice_get_within p.variables (get_or p.equations k d).variable v e

-- where nothing is answered, no test holds
pub none_holds : {A : Type 0} (rows : List (Bool × A)) → first_of rows ≡ None → AllByRecursion (λ row. row.0 ≡ false) rows
none_holds [] e = tt
none_holds (row ∷ rows) e = by row.0 refl e (λ g. none_holds rows g)
  where
    by : (b : Bool) → row.0 ≡ b → cond b (Some row.1) (first_of rows) ≡ None → (first_of rows ≡ None → AllByRecursion (λ row. row.0 ≡ false) rows) → AllByRecursion (λ row. row.0 ≡ false) (row ∷ rows)
    by true h g rest = cc
    by false h g rest = (h, rest g)

pub neither : (a b : Bool) → (a || b) ≡ false → (a ≡ false) × (b ≡ false)
neither true b e = cc
neither false b e = (refl, e)

abbrev pub limits : System → List (Bool × ShapeFault)
limits p =
    (has_many_names p, Limit Names) ∷ (has_many_columns p, Limit Columns) ∷ (has_many_nodes p, Limit Size)
    ∷ (has_many_disjuncts p, Limit Disjuncts) ∷ []

pub few_variables : (p : System) → limit_of p ≡ None → length p.variables ≤ 256
few_variables p e =
    let names = none_holds (limits p) e in
    ltb-false 256 (length p.variables) (neither (nat_lt 256 (length p.variables)) (nat_lt 8 (length p.params)) names.0).0

abbrev pub equation_tests : ℕ → List Variable → List Equation → Equation → List (Bool × ShapeKind)
equation_tests params variables earlier e =
    (list_any (has_other_arity params variables) (parts (term e.body)), Arity)
    ∷ (of_variable variables (λ variable. is_input variable.role) e.variable, InputEquation)
    ∷ (list_any (λ other. other.variable == e.variable) earlier, TwoEquations)
    ∷ (list_any reduces_by_sub (parts (term e.body)), BadReduce) ∷ []
