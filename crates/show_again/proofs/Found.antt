-- The name of a variable finds its declaration, and no other.
use Rattle.std.proofs.Common.{◌≡◌, ℕ, zero, suc, ◌+◌, Bool, true, false, true≢false, not, cond, ◌||◌, ◌&&◌, List, [], ◌∷◌, ◌++◌, Option, Some, None, refl, sym, ap, subst, ◌∙◌, arith}
use Rattle.std.specs.Prelude.{◌==◌, if◌then◌else◌, map, slice_get, bytes_eq}
use Rattle.std.specs.List.{list_any, find, AllByRecursion}
use Rattle.std.specs.Option.{option_or, option_map_or}
use Rattle.std.proofs.lemmas.Bool.{eqb-true, or_from, not-false}
use Rattle.az_ast.specs.declared.fault.ShapeKind.TheVariants.{NoEquation}
use Rattle.az_ast.specs.declared.program.Equation as program
use Rattle.az_ast.specs.declared.program.Role.{Role}
use Rattle.az_ast.specs.declared.program.Role.TheVariants.{Input, Output, Local}
use Rattle.az_ast.specs.declared.program.Variable.{Variable}
use Rattle.az_ast.specs.Placed.{rank}
use Rattle.az_ast.specs.Shapes.{has_twice, is_input, lacks_equation, missing_kinds, first_of}
use Rattle.az_ast.proofs.ShapeParts.{none_holds}
use Rattle.alphabets_show.specs.Expressions.{name_of}
use Rattle.alphabets_show.specs.Shown.{has_role}
use Rattle.alphabets_show.specs.Sides.{Names}
use Rattle.program_grammar.specs.declared.tree.Declaration.{Declaration}
use Rattle.program_grammar.specs.declared.tree.Equation.{Equation}
use Rattle.program_grammar.specs.declared.tree.ProgramText.{ProgramText}
use Rattle.program_names.specs.Refusals.{is_named, declaration_of as declared_as, missing_kind}
use Rattle.program_names.specs.Resolved.{declarations}
use Rattle.program_names.proofs.NameNumbers.{equal-bytes, differ-back}
use Rattle.program_names.proofs.Sums.{or-left, or-right}
use Rattle.show_grammar.specs.WrittenOf.{declaration_of, declarations_of}
use Rattle.show_means.specs.Kept.{names_of}

-- a name that isn't there differs from that of each variable
pub absent_name : (test : List ℕ → Bool) (vs : List Variable) (x : ℕ) (v : Variable) → slice_get vs x ≡ Some v → list_any test (names_of vs) ≡ false → test v.name ≡ false
absent_name test [] x v is none = absurd (cc)
absent_name test (w ∷ vs) zero v is none =
    let same : w ≡ v = cc in subst (λ (u : Variable). test u.name ≡ false) same (or-left (test w.name) (list_any test (names_of vs)) none)
absent_name test (w ∷ vs) (suc x) v is none = absent_name test vs x v is (or-right (test w.name) (list_any test (names_of vs)) none)

pub name_at : (vs : List Variable) (x : ℕ) (v : Variable) → slice_get vs x ≡ Some v → name_of vs x ≡ v.name
name_at vs x v is = ap (λ (o : Option Variable). option_map_or (λ (w : Variable). w.name) o []) is

find_append : {A : Type 0} (test : A → Bool) (xs ys : List A) → find test (xs ++ ys) ≡ option_or (find test xs) (find test ys)
find_append test [] ys = refl
find_append test (x ∷ xs) ys = by (test x) (find_append test xs ys)
  where
    by : (b : Bool) → find test (xs ++ ys) ≡ option_or (find test xs) (find test ys) → cond b (Some x) (find test (xs ++ ys)) ≡ option_or (cond b (Some x) (find test xs)) (find test ys)
    by true rest = refl
    by false rest = rest

find_at : (params : Names) (vs : List Variable) (x : ℕ) (v : Variable) → slice_get vs x ≡ Some v → has_twice (names_of vs) ≡ false → find (is_named v.name) (map (declaration_of params) vs) ≡ Some (declaration_of params v)
find_at params [] x v is once = absurd (cc)
find_at params (w ∷ vs) zero v is once =
    let same : w ≡ v = cc in
    ap (λ b. cond b (Some (declaration_of params w)) (find (is_named v.name) (map (declaration_of params) vs))) (equal-bytes v.name w.name (ap (λ (u : Variable). u.name) (sym same)))
    ∙ ap (λ (u : Variable). Some (declaration_of params u)) same
find_at params (w ∷ vs) (suc x) v is once =
    let differs = differ-back w.name v.name (absent_name (bytes_eq w.name) vs x v is (or-left (list_any (bytes_eq w.name) (names_of vs)) (has_twice (names_of vs)) once)) in
    ap (λ b. cond b (Some (declaration_of params w)) (find (is_named v.name) (map (declaration_of params) vs))) differs
    ∙ find_at params vs x v is (or-right (list_any (bytes_eq w.name) (names_of vs)) (has_twice (names_of vs)) once)

pub found_at : (text : ProgramText) (params : Names) (vs : List Variable) → declarations text ≡ map (declaration_of params) vs → has_twice (names_of vs) ≡ false
    → (x : ℕ) (v : Variable) → slice_get vs x ≡ Some v → declared_as text (name_of vs x) ≡ Some (declaration_of params v)
found_at text params vs same once x v is =
    ap (declared_as text) (name_at vs x v is)
    ∙ (sym (find_append (is_named v.name) text.inputs (text.outputs ++ text.locals) ∙ ap (option_or (find (is_named v.name) text.inputs)) (find_append (is_named v.name) text.outputs text.locals))
    ∙ (ap (find (is_named v.name)) same ∙ find_at params vs x v is once))

-- no section has a name that no variable has
absent_declared : (params : Names) (name : List ℕ) (role : Role) (vs : List Variable) → list_any (bytes_eq name) (names_of vs) ≡ false → list_any (λ (d : Declaration). bytes_eq d.name name) (declarations_of params role vs) ≡ false
absent_declared params name role [] none = refl
absent_declared params name role (w ∷ vs) none = by (has_role role w) (absent_declared params name role vs (or-right (bytes_eq name w.name) (list_any (bytes_eq name) (names_of vs)) none))
  where
    by : (b : Bool) → list_any (λ (d : Declaration). bytes_eq d.name name) (declarations_of params role vs) ≡ false
        → list_any (λ (d : Declaration). bytes_eq d.name name) ((if b then declaration_of params w ∷ [] else []) ++ declarations_of params role vs) ≡ false
    by true rest = or_from (bytes_eq w.name name) (list_any (λ (d : Declaration). bytes_eq d.name name) (declarations_of params role vs)) (differ-back name w.name (or-left (bytes_eq name w.name) (list_any (bytes_eq name) (names_of vs)) none)) rest
    by false rest = rest

input_rank : (role : Role) → (rank role == rank Input) ≡ is_input role
input_rank Input = refl
input_rank Output = refl
input_rank Local = refl

pub no_input_named : (params : Names) (vs : List Variable) (x : ℕ) (v : Variable) → slice_get vs x ≡ Some v → is_input v.role ≡ false → has_twice (names_of vs) ≡ false
    → list_any (λ (input : Declaration). bytes_eq input.name v.name) (declarations_of params Input vs) ≡ false
no_input_named params [] x v is other once = absurd (cc)
no_input_named params (w ∷ vs) zero v is other once =
    let same : w ≡ v = cc in
    let here : has_role Input w ≡ false = input_rank w.role ∙ (ap (λ (u : Variable). is_input u.role) same ∙ other) in
    let none = or-left (list_any (bytes_eq w.name) (names_of vs)) (has_twice (names_of vs)) once in
    ap (λ b. list_any (λ (input : Declaration). bytes_eq input.name v.name) ((if b then declaration_of params w ∷ [] else []) ++ declarations_of params Input vs)) here
    ∙ absent_declared params v.name Input vs (subst (λ (u : Variable). list_any (bytes_eq u.name) (names_of vs) ≡ false) same none)
no_input_named params (w ∷ vs) (suc x) v is other once =
    by (has_role Input w) (absent_name (bytes_eq w.name) vs x v is (or-left (list_any (bytes_eq w.name) (names_of vs)) (has_twice (names_of vs)) once))
    (no_input_named params vs x v is other (or-right (list_any (bytes_eq w.name) (names_of vs)) (has_twice (names_of vs)) once))
  where
    by : (b : Bool) → bytes_eq w.name v.name ≡ false → list_any (λ (input : Declaration). bytes_eq input.name v.name) (declarations_of params Input vs) ≡ false
        → list_any (λ (input : Declaration). bytes_eq input.name v.name) ((if b then declaration_of params w ∷ [] else []) ++ declarations_of params Input vs) ≡ false
    by true differs rest = or_from (bytes_eq w.name v.name) (list_any (λ (input : Declaration). bytes_eq input.name v.name) (declarations_of params Input vs)) differs rest
    by false differs rest = rest

last_true : (b : Bool) → (b || true) ≡ true
last_true true = refl
last_true false = refl

-- each output and local has an equation by its name
module _ (params : Names) (variables : List Variable) (written : program.Equation → Equation) (named : (e : program.Equation) → (written e).variable ≡ name_of variables e.variable) where
  equation_named : (es : List program.Equation) (x : ℕ) (name : List ℕ) → name_of variables x ≡ name → list_any (λ (e : program.Equation). e.variable == x) es ≡ true
      → list_any (λ (e : Equation). bytes_eq e.variable name) (map written es) ≡ true
  equation_named [] x name same some = absurd (true≢false (sym some))
  equation_named (e ∷ es) x name same some = by (e.variable == x) refl some (equation_named es x name same)
    where
      by : (b : Bool) → (e.variable == x) ≡ b → (b || list_any (λ (q : program.Equation). q.variable == x) es) ≡ true
          → (list_any (λ (q : program.Equation). q.variable == x) es ≡ true → list_any (λ (q : Equation). bytes_eq q.variable name) (map written es) ≡ true)
          → (bytes_eq (written e).variable name || list_any (λ (q : Equation). bytes_eq q.variable name) (map written es)) ≡ true
      by true is some rest =
          let equal = equal-bytes (written e).variable name (named e ∙ (ap (name_of variables) (eqb-true e.variable x is) ∙ same)) in
          ap (λ b. b || list_any (λ (q : Equation). bytes_eq q.variable name) (map written es)) equal
      by false is some rest = ap (λ b. bytes_eq (written e).variable name || b) (rest some) ∙ last_true (bytes_eq (written e).variable name)

  abbrev HasEquation : List program.Equation → Declaration → Type 0
  HasEquation es d = missing_kind (map written es) d ≡ None

  pub none_missing : (es : List program.Equation) (role : Role) → is_input role ≡ false → (x : ℕ) (vs : List Variable) → ((i : ℕ) (v : Variable) → slice_get vs i ≡ Some v → name_of variables (x + i) ≡ v.name)
      → AllByRecursion (λ k. k ≡ None) (missing_kinds es x vs) → AllByRecursion (HasEquation es) (declarations_of params role vs)
  none_missing es role other x [] names none = tt
  none_missing es role other x (v ∷ vs) names none =
      by (has_role role v) refl (none_missing es role other (suc x) vs (λ i w is. let at : suc x + i ≡ x + suc i = omega arith in ap (name_of variables) at ∙ names (suc i) w is) none.1)
    where
      here : has_role role v ≡ true → HasEquation es (declaration_of params v)
      here has =
          let same = eqb-true (rank v.role) (rank role) has in
          let no_input : is_input v.role ≡ false = sym (input_rank v.role) ∙ (ap (λ (n : ℕ). n == rank Input) same ∙ (input_rank role ∙ other)) in
          let lacks = (none_holds ((lacks_equation es x v, NoEquation) ∷ []) none.0).0 in
          let some : list_any (λ (e : program.Equation). e.variable == x) es ≡ true =
          not-false (list_any (λ (e : program.Equation). e.variable == x) es)
          (subst (λ b. (not b && not (list_any (λ (e : program.Equation). e.variable == x) es)) ≡ false) no_input lacks) in
          let start : x + 0 ≡ x = omega arith in
          let found = equation_named es x v.name (ap (name_of variables) (sym start) ∙ names 0 v refl) some in
          ap (λ b. first_of ((not b, NoEquation) ∷ [])) found

      by : (b : Bool) → has_role role v ≡ b → AllByRecursion (HasEquation es) (declarations_of params role vs)
          → AllByRecursion (HasEquation es) ((if b then declaration_of params v ∷ [] else []) ++ declarations_of params role vs)
      by true has rest = (here has, rest)
      by false has rest = rest
