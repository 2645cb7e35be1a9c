-- Parts that keep the rules on places and shapes: those of a program do, and parts that do make a program but for its
-- limits.
use Rattle.std.proofs.Common.{◌≡◌, ℕ, ◌+◌, ◌<◌, ◌≤◌, List, [], ◌∷◌, ◌++◌, length, map, get_or, Bool, true, false, cond, not, ◌||◌, ◌&&◌, Option, Some, None, All, refl, sym, ap, subst, ◌∙◌, arith, inl, inr}
use Rattle.std.specs.Prelude.{slice_get, slice_index_or, MatchOption, option_map, find, is_none, ◌==◌}
use Rattle.std.specs.List.{list_any, AllByRecursion}
use Rattle.std.specs.Option.{option_or, option_map_or}
use Rattle.std.specs.Str.{bytes_eq}
use Rattle.std.proofs.lemmas.List.Elements.{recursion_from_All, All-from_recursion}
use Rattle.az_ast.proofs.ProgramLaws.{no_faults, all_none, each_item, equation_is}
use Rattle.az_ast.proofs.ShapeParts.{shape_parts, none_holds, equation_tests}
use Rattle.az_ast.proofs.TermShapes.{HasShape, bodies-shaped}
use Rattle.az_ast.specs.Placed.{IsPlaced, IsAtWidth, IsEquationPlaced, AreInOrder, rank}
use Rattle.az_ast.specs.Shapes.{IsProgram, first_of, first_kind, kinds_after, missing_kinds, header_kind, declaration_kind, equation_kind, shape_of, lacks_equation, is_input, is_index_name, of_variable, has_other_arity, reduces_by_sub}
use Rattle.az_ast.specs.System.{System}
use Rattle.az_ast.specs.Term.{Term, term}
use Rattle.az_ast.specs.Walks.{parts}
use Rattle.az_ast.specs.declared.fault.ShapeFault.{ShapeFault}
use Rattle.az_ast.specs.declared.fault.ShapeFault.TheVariants.{Shape}
use Rattle.az_ast.specs.declared.fault.ShapeKind.{ShapeKind}
use Rattle.az_ast.specs.declared.fault.ShapeKind.TheVariants.{Reserved, TwiceName, NoEquation}
use Rattle.az_ast.specs.declared.program.Equation.{Equation}
use Rattle.az_ast.specs.declared.program.Variable.{Variable}
use Rattle.rewriting.specs.Definitions.{Definition, definition_of, defining, definitions, defined_as, with_parts}
use Rattle.rewriting.proofs.ExprOf.{term-expr_of}
use Rattle.rewriting.proofs.Items.{each-both, each-map, none_first, none_kind, NoneOf, Apart, MeetsNone, apart-from_none, none-from_apart, meets_none-at_first, none_missing}
use Rattle.rewriting.proofs.Lookups.{defines_same, defined-own}
use Rattle.rewriting.proofs.Shaped.{arities-of_shape, folds-of_shape}

-- variables of one name
abbrev pub has_name_of : Variable → Variable → Bool
has_name_of other variable = bytes_eq other.name variable.name

-- a definition of an output or local, of a program's shape and at its columns
abbrev pub Defines : ℕ → List Variable → Definition → Type 0
Defines params variables d =
    MatchOption (slice_get variables d.0) ⊥ (λ variable. (is_input variable.role ≡ false) × IsAtWidth (length variables) d.1 variable.domain.width × HasShape params variables d.1)

pub record AreFine (p : System) (variables : List Variable) (defined : List Definition) : Type 0 where
  pub order : AreInOrder variables
  pub widths : AllByRecursion (λ variable. length p.params ≤ variable.domain.width) variables
  pub names : AllByRecursion (λ variable. is_index_name variable.name ≡ false) variables
  pub named_apart : Apart has_name_of variables
  pub bodies : AllByRecursion (Defines (length p.params) variables) defined
  pub defined_apart : Apart defines_same defined
  pub complete : (x : ℕ) (variable : Variable) → slice_get variables x ≡ Some variable → is_input variable.role ≡ false → list_any (λ (d : Definition). d.0 == x) defined ≡ true

-- lists of equations as definitions
each-of_definitions : (P : Definition → Type 0) (equations : List Equation) → AllByRecursion (λ (e : Equation). P (definition_of e)) equations → AllByRecursion P (map definition_of equations)
each-of_definitions P [] h = tt
each-of_definitions P (e ∷ es) h = (h.0, each-of_definitions P es h.1)

apart-of_definitions : (equations : List Equation) → Apart (λ (o e : Equation). o.variable == e.variable) equations → Apart defines_same (map definition_of equations)
apart-of_definitions [] h = tt
apart-of_definitions (e ∷ es) h = (each-of_definitions (λ (d : Definition). (e.variable == d.0) ≡ false) es h.0, apart-of_definitions es h.1)

any-of_definitions : (x : ℕ) (equations : List Equation) → list_any (λ (d : Definition). d.0 == x) (map definition_of equations) ≡ list_any (λ (e : Equation). e.variable == x) equations
any-of_definitions x [] = refl
any-of_definitions x (e ∷ es) = ap (λ b. (e.variable == x) || b) (any-of_definitions x es)

any-from_find : {A : Type 0} (test : A → Bool) (xs : List A) → is_none (find test xs) ≡ false → list_any test xs ≡ true
any-from_find test [] h = cc
any-from_find test (x ∷ xs) h = by (test x) refl h (λ g. any-from_find test xs g)
  where
    by : (b : Bool) → test x ≡ b → is_none (cond b (Some x) (find test xs)) ≡ false → (is_none (find test xs) ≡ false → list_any test xs ≡ true) → (b || list_any test xs) ≡ true
    by true t h rest = refl
    by false t h rest = rest h

module _ (p : System) (program : IsProgram p) where
  abbrev Params : ℕ
  Params = length p.params

  unreserved : (earlier : List Variable) (v : Variable) → declaration_kind earlier v ≡ None → (is_index_name v.name ≡ false) × MeetsNone has_name_of earlier v
  unreserved earlier v e =
      let n = none_holds ((is_index_name v.name, Reserved) ∷ (list_any (λ (o : Variable). bytes_eq o.name v.name) earlier, TwiceName) ∷ []) e in
      (n.0, n.1.0)

  no_declaration : NoneOf declaration_kind [] p.variables
  no_declaration = all_none 1 (kinds_after declaration_kind [] p.variables) (no_faults p program).2

  no_equation : NoneOf (equation_kind Params p.variables) [] p.equations
  no_equation = all_none (1 + length p.variables) (kinds_after (equation_kind Params p.variables) [] p.equations) (no_faults p program).3

  written : All (λ (e : Equation). of_variable p.variables (λ v. is_input v.role) e.variable ≡ false) p.equations
  written =
      All-from_recursion (λ (e : Equation). of_variable p.variables (λ v. is_input v.role) e.variable ≡ false) p.equations
      (each_item (equation_kind Params p.variables) (λ (e : Equation). of_variable p.variables (λ v. is_input v.role) e.variable ≡ false)
      (λ earlier e h. (none_holds (equation_tests Params p.variables earlier e) h).1.0) [] p.equations no_equation)

  one : (e : Equation) (o : Option Variable) → option_map_or (λ (v : Variable). is_input v.role) o false ≡ false
      → MatchOption o ⊥ (λ (v : Variable). IsAtWidth (length p.variables) (term e.body) v.domain.width) → HasShape Params p.variables (term e.body)
      → MatchOption o ⊥ (λ (v : Variable). (is_input v.role ≡ false) × IsAtWidth (length p.variables) (term e.body) v.domain.width × HasShape Params p.variables (term e.body))
  one e None i w h = absurd w
  one e (Some v) i w h = (i, w, h)

  bodies-fine : All (λ (e : Equation). Defines Params p.variables (definition_of e)) p.equations
  bodies-fine k d within =
      let e = slice_index_or p.equations k d in
      one e (slice_get p.variables e.variable) (written k d within) (program.placed.bodies k d within) (bodies-shaped p program k d within)

  complete-here : (x : ℕ) (v : Variable) → slice_get p.variables x ≡ Some v → is_input v.role ≡ false → list_any (λ (d : Definition). d.0 == x) (definitions p) ≡ true
  complete-here x v declared local = any-of_definitions x p.equations ∙ any-from_find (λ (e : Equation). e.variable == x) p.equations (equation_is p program x v declared ∙ local)

  pub parts-fine : AreFine p p.variables (definitions p)
  parts-fine =
      let named = apart-from_none has_name_of declaration_kind (λ earlier v e. (unreserved earlier v e).1) [] p.variables no_declaration in
      let numbered = apart-from_none (λ (o e : Equation). o.variable == e.variable) (equation_kind Params p.variables) (λ earlier e h. (none_holds (equation_tests Params p.variables earlier e) h).1.1.0) [] p.equations no_equation in
      record {
        order = program.placed.order;
        widths = recursion_from_All (λ (v : Variable). Params ≤ v.domain.width) p.variables program.placed.domains;
        names = each_item declaration_kind (λ (v : Variable). is_index_name v.name ≡ false) (λ earlier v e. (unreserved earlier v e).0) [] p.variables no_declaration;
        named_apart = named.1;
        bodies = each-of_definitions (Defines Params p.variables) p.equations (recursion_from_All (λ (e : Equation). Defines Params p.variables (definition_of e)) p.equations bodies-fine);
        defined_apart = apart-of_definitions p.equations numbered.1;
        complete = complete-here;
      }

-- and the converse
module _ (p : System) (program : IsProgram p) (variables : List Variable) (defined : List Definition) (fine : AreFine p variables defined) where
  abbrev q : System
  q = with_parts p variables defined

  abbrev Count : ℕ
  Count = length p.params

  placed_one : (d : Definition) → Defines Count variables d → IsEquationPlaced variables (defining d)
  placed_one d h = by (slice_get variables d.0) h
    where
      by : (o : Option Variable) → MatchOption o ⊥ (λ (v : Variable). (is_input v.role ≡ false) × IsAtWidth (length variables) d.1 v.domain.width × HasShape Count variables d.1)
          → MatchOption o ⊥ (λ (v : Variable). IsAtWidth (length variables) (term (defining d).body) v.domain.width)
      by None h = absurd h
      by (Some v) h = subst (λ t. IsAtWidth (length variables) t v.domain.width) (sym (term-expr_of d.1)) h.1

  of_defining : (P : Equation → Type 0) (Q : Definition → Type 0) → ((d : Definition) → Q d → P (defining d)) → (ds : List Definition) → AllByRecursion Q ds → AllByRecursion P (map defining ds)
  of_defining P Q to [] h = tt
  of_defining P Q to (d ∷ ds) h = (to d h.0, of_defining P Q to ds h.1)

  pub placed : IsPlaced q
  placed = record {
    parameters = program.placed.parameters;
    parameters_plain = program.placed.parameters_plain;
    order = fine.order;
    domains = All-from_recursion (λ (v : Variable). Count ≤ v.domain.width) variables fine.widths;
    bodies = All-from_recursion (IsEquationPlaced variables) (map defining defined) (of_defining (IsEquationPlaced variables) (Defines Count variables) placed_one defined fine.bodies);
  }

  no_declaration_there : NoneOf declaration_kind [] variables
  no_declaration_there =
      none-from_apart has_name_of declaration_kind (λ v. is_index_name v.name ≡ false)
      (λ earlier v free none. none_first ((is_index_name v.name, Reserved) ∷ (list_any (λ (o : Variable). bytes_eq o.name v.name) earlier, TwiceName) ∷ []) (free, (none, tt)))
      [] variables fine.names (meets_none-at_first has_name_of variables) fine.named_apart

  -- an equation without a fault of its own
  abbrev IsFaultless : Equation → Type 0
  IsFaultless e =
      (list_any (has_other_arity Count variables) (parts (term e.body)) ≡ false)
      × (of_variable variables (λ v. is_input v.role) e.variable ≡ false) × (list_any reduces_by_sub (parts (term e.body)) ≡ false)

  faultless : (d : Definition) → Defines Count variables d → IsFaultless (defining d)
  faultless d h = by (slice_get variables d.0) h
    where
      by : (o : Option Variable) → MatchOption o ⊥ (λ (v : Variable). (is_input v.role ≡ false) × IsAtWidth (length variables) d.1 v.domain.width × HasShape Count variables d.1)
          → (list_any (has_other_arity Count variables) (parts (term (defining d).body)) ≡ false)
          × (option_map_or (λ (v : Variable). is_input v.role) o false ≡ false) × (list_any reduces_by_sub (parts (term (defining d).body)) ≡ false)
      by None h = absurd h
      by (Some v) h = (
        subst (λ t. list_any (has_other_arity Count variables) (parts t) ≡ false) (sym (term-expr_of d.1)) (arities-of_shape Count variables d.1 h.2),
        h.0,
        subst (λ t. list_any reduces_by_sub (parts t) ≡ false) (sym (term-expr_of d.1)) (folds-of_shape Count variables d.1 h.2),
      )

  apart-defining : (ds : List Definition) → Apart defines_same ds → Apart (λ (o e : Equation). o.variable == e.variable) (map defining ds)
  apart-defining [] h = tt
  apart-defining (d ∷ ds) h = (of_defining (λ (e : Equation). (d.0 == e.variable) ≡ false) (λ (o : Definition). (d.0 == o.0) ≡ false) (λ o g. g) ds h.0, apart-defining ds h.1)

  no_equation_there : NoneOf (equation_kind Count variables) [] (map defining defined)
  no_equation_there =
      none-from_apart (λ (o e : Equation). o.variable == e.variable) (equation_kind Count variables) IsFaultless
      (λ earlier e own none. none_first (equation_tests Count variables earlier e) (own.0, (own.1, (none, (own.2, tt)))))
      [] (map defining defined) (of_defining IsFaultless (Defines Count variables) faultless defined fine.bodies)
      (meets_none-at_first (λ (o e : Equation). o.variable == e.variable) (map defining defined)) (apart-defining defined fine.defined_apart)

  any-defining : (x : ℕ) (ds : List Definition) → list_any (λ (e : Equation). e.variable == x) (map defining ds) ≡ list_any (λ (d : Definition). d.0 == x) ds
  any-defining x [] = refl
  any-defining x (d ∷ ds) = ap (λ b. (d.0 == x) || b) (any-defining x ds)

  not_lacking : (x : ℕ) (v : Variable) → slice_get variables x ≡ Some v → lacks_equation (map defining defined) x v ≡ false
  not_lacking x v declared = by (is_input v.role) refl
    where
      by : (b : Bool) → is_input v.role ≡ b → (not b && not (list_any (λ (e : Equation). e.variable == x) (map defining defined))) ≡ false
      by true i = refl
      by false i = ap not (any-defining x defined ∙ fine.complete x v declared i)

  pub shaped : shape_of q ≡ None
  shaped =
      shape_parts q
      ∙ all_four (option_map (λ k. Shape k 0) (header_kind p.params)) (first_kind 1 (kinds_after declaration_kind [] variables))
      (first_kind (1 + length variables) (kinds_after (equation_kind Count variables) [] (map defining defined))) (first_kind 1 (missing_kinds (map defining defined) 0 variables))
      (no_faults p program).1
      (none_kind 1 (kinds_after declaration_kind [] variables) no_declaration_there)
      (none_kind (1 + length variables) (kinds_after (equation_kind Count variables) [] (map defining defined)) no_equation_there)
      (none_kind 1 (missing_kinds (map defining defined) 0 variables) (none_missing (map defining defined) 0 variables (λ i v e. subst (λ n. lacks_equation (map defining defined) n v ≡ false) (from_zero i) (not_lacking i v e))))
    where
      from_zero : (i : ℕ) → i ≡ 0 + i
      from_zero i = omega arith

      all_four : (a b c d : Option ShapeFault) → a ≡ None → b ≡ None → c ≡ None → d ≡ None → option_or a (option_or b (option_or c d)) ≡ None
      all_four a b c d e f g h = ap (λ o. option_or o (option_or b (option_or c d))) e ∙ (ap (λ o. option_or o (option_or c d)) f ∙ (ap (λ o. option_or o d) g ∙ h))

-- definitions that are changed and keep their numbers
module _ (p : System) (program : IsProgram p) (change : ℕ → Term → Term) where
  abbrev pub Redefined : List Definition → List Definition
  Redefined ds = map (λ (d : Definition). (d.0, change d.0 d.1)) ds

  redefined-apart : (ds : List Definition) → Apart defines_same ds → Apart defines_same (Redefined ds)
  redefined-apart [] h = tt
  redefined-apart (d ∷ ds) h = (each d.0 ds h.0, redefined-apart ds h.1)
    where
      each : (x : ℕ) (es : List Definition) → AllByRecursion (λ (e : Definition). (x == e.0) ≡ false) es → AllByRecursion (λ (e : Definition). (x == e.0) ≡ false) (Redefined es)
      each x [] all = tt
      each x (e ∷ es) all = (all.0, each x es all.1)

  redefined-any : (x : ℕ) (ds : List Definition) → list_any (λ (d : Definition). d.0 == x) (Redefined ds) ≡ list_any (λ (d : Definition). d.0 == x) ds
  redefined-any x [] = refl
  redefined-any x (d ∷ ds) = ap (λ b. (d.0 == x) || b) (redefined-any x ds)

  redefined-bodies : (variables : List Variable) → ((d : Definition) → Defines (length p.params) p.variables d → defined_as (definitions p) d.0 ≡ Some d.1 → Defines (length p.params) variables (d.0, change d.0 d.1))
      → (ds : List Definition) → AllByRecursion (Defines (length p.params) p.variables) ds → AllByRecursion (λ (d : Definition). defined_as (definitions p) d.0 ≡ Some d.1) ds → AllByRecursion (Defines (length p.params) variables) (Redefined ds)
  redefined-bodies variables to [] all found = tt
  redefined-bodies variables to (d ∷ ds) all found = (to d all.0 found.0, redefined-bodies variables to ds all.1 found.1)

  -- with the variables as they were, or with variables of the same names and roles
  pub redefined-fine : (variables : List Variable) → AreInOrder variables → AllByRecursion (λ variable. length p.params ≤ variable.domain.width) variables → AllByRecursion (λ variable. is_index_name variable.name ≡ false) variables → Apart has_name_of variables
      → ((x : ℕ) (v : Variable) → slice_get variables x ≡ Some v → (u : Variable) × (slice_get p.variables x ≡ Some u) × (u.role ≡ v.role))
      → ((d : Definition) → Defines (length p.params) p.variables d → defined_as (definitions p) d.0 ≡ Some d.1 → Defines (length p.params) variables (d.0, change d.0 d.1))
      → AreFine p variables (Redefined (definitions p))
  redefined-fine variables order widths names apart was to =
      let fine = parts-fine p program in
      record {
        order = order;
        widths = widths;
        names = names;
        named_apart = apart;
        bodies = redefined-bodies variables to (definitions p) fine.bodies (defined-own (definitions p) fine.defined_apart);
        defined_apart = redefined-apart (definitions p) fine.defined_apart;
        complete = λ x v here written. let old = was x v here in redefined-any x (definitions p) ∙ fine.complete x old.0 old.1 (ap is_input old.2 ∙ written);
      }
