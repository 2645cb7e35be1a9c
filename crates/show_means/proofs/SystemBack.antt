-- What is written of a program means that program.
use Rattle.std.proofs.Common.{◌≡◌, ℕ, zero, suc, ◌+◌, ◌-◌, ◌<◌, ◌≤◌, ◌^◌, Bool, true, false, List, [], ◌∷◌, ◌++◌, length, Option, Some, None, refl, sym, ap, subst, ◌∙◌, arith, append-nil}
use Rattle.std.specs.Prelude.{map, slice_get, MatchOption, nat_lt}
use Rattle.std.specs.List.{list_any, AllByRecursion}
use Rattle.std.specs.Option.{option_map_or}
use Rattle.std.proofs.lemmas.Bool.{ltb-false}
use Rattle.std.proofs.lemmas.List.Elements.{recursion_from_All}
use Rattle.az_ast.specs.declared.program.Equation.{Equation}
use Rattle.az_ast.specs.declared.program.Role.{Role}
use Rattle.az_ast.specs.declared.program.Variable.{Variable}
use Rattle.az_ast.specs.Placed.{IsAtWidth, IsEquationPlaced}
use Rattle.az_ast.specs.Rows.{HasRowsAt, HasBodyRows, HasDomainRows, IsDomainAt}
use Rattle.az_ast.specs.Shapes.{has_twice, of_variable, stands_under_many, IsProgram}
use Rattle.az_ast.specs.Shapes as shapes
use Rattle.az_ast.specs.System.{System}
use Rattle.az_ast.specs.Term.{term}
use Rattle.az_ast.specs.Walks.{extra_under}
use Rattle.az_ast.proofs.SameTerms.{term-injective}
use Rattle.alphabets_show.specs.Expressions.{name_of}
use Rattle.alphabets_show.specs.Shown.{count_of}
use Rattle.alphabets_show.specs.Sides.{Names, indices}
use Rattle.program_grammar.specs.declared.tree.Declaration.{Declaration}
use Rattle.program_names.specs.Resolved.{expression, declared_names, variable_of, variables_of, system_of}
use Rattle.program_names.specs.Resolved as resolved
use Rattle.program_names.specs.Sides.{union_of}
use Rattle.program_names.proofs.VariableMaps.{variables-map}
use Rattle.show_grammar.specs.WrittenOf.{only_chains, expression_of, equation_of, declaration_of, declarations_of, disjuncts_of, written_of}
use Rattle.show_means.proofs.DomainsBack.{domain_back, single_back}
use Rattle.show_means.proofs.ExpressionsBack.{number_back, expression_back}
use Rattle.show_means.proofs.VariablesBack.{sections_back, IsMade}
use Rattle.show_means.specs.Kept.{IsKept, columns, names_of}

-- what is known of the item at a place
pub all_at : {A : Type 0} (P : A → Type 0) (xs : List A) (x : ℕ) (a : A) → AllByRecursion P xs → slice_get xs x ≡ Some a → P a
all_at P [] x a all is = absurd (cc)
all_at P (y ∷ xs) zero a all is = let same : y ≡ a = cc in subst P same all.0
all_at P (y ∷ xs) (suc x) a all is = all_at P xs x a all.1 is

pub within_at : {A : Type 0} (xs : List A) (x : ℕ) (a : A) → slice_get xs x ≡ Some a → x < length xs
within_at [] x a is = absurd (cc)
within_at (y ∷ xs) zero a is = omega arith
within_at (y ∷ xs) (suc x) a is = let rest = within_at xs x a is in omega (arith, rest)

-- the variable of an equation, with what is known of its body
pub record HasVariable (p : System) (e : Equation) (v : Variable) : Type 0 where
  pub found : slice_get p.variables e.variable ≡ Some v
  pub placed : IsAtWidth (length p.variables) (term e.body) v.domain.width
  pub rows : HasRowsAt (term e.body) v.domain.width
  pub wide : length p.params ≤ v.domain.width
  pub under : shapes.indices (length p.params) v + extra_under (term e.body) ≤ 16

module _ (p : System) (program : IsProgram p) (kept : IsKept p) where
  params-le : AllByRecursion (λ (v : Variable). length p.params ≤ v.domain.width) p.variables
  params-le = recursion_from_All (λ (v : Variable). length p.params ≤ v.domain.width) p.variables program.placed.domains

  pub variable_at : (e : Equation) → IsEquationPlaced p.variables e → HasBodyRows p.variables e → stands_under_many (length p.params) p.variables e ≡ false → (v : Variable) × HasVariable p e v
  variable_at e placed rows under = by (slice_get p.variables e.variable) refl placed rows under
    where
      by : (o : Option Variable) → slice_get p.variables e.variable ≡ o
          → MatchOption o ⊥ (λ v. IsAtWidth (length p.variables) (term e.body) v.domain.width) → MatchOption o ⊥ (λ v. HasRowsAt (term e.body) v.domain.width)
          → option_map_or (λ v. nat_lt 16 (shapes.indices (length p.params) v + extra_under (term e.body))) o false ≡ false → (v : Variable) × HasVariable p e v
      by None found placed rows under = absurd placed
      by (Some v) found placed rows under = (
        v,
        record {
          found = found;
          placed = placed;
          rows = rows;
          wide = all_at (λ (v : Variable). length p.params ≤ v.domain.width) p.variables e.variable v params-le found;
          under = ltb-false 16 (shapes.indices (length p.params) v + extra_under (term e.body)) under;
        },
      )

  pub count_is : (x : ℕ) (v : Variable) → slice_get p.variables x ≡ Some v → count_of p.params p.variables x ≡ shapes.indices (length p.params) v
  count_is x v found = ap (λ (o : Option Variable). option_map_or (shapes.indices (length p.params)) o 0) found

  equation_back : (e : Equation) → (v : Variable) × HasVariable p e v → resolved.equation_of (names_of p.variables) p.params (equation_of p.params p.variables e) ≡ e
  equation_back e known =
      let v = known.0 in
      let facts = known.1 in
      let count = count_of p.params p.variables e.variable in
      let same = count_is e.variable v facts.found in
      let under = facts.under in
      let wide = facts.wide in
      let number = number_back p.variables e.variable kept.names (within_at p.variables e.variable v facts.found) in
      let body = term-injective (expression (names_of p.variables) (expression_of p.params p.variables (term e.body) count) (columns p.params count)) e.body
      (expression_back p.params p.variables kept.scopes kept.names (term e.body) count v.domain.width (omega (arith, same, wide)) (omega (arith, same, under)) facts.placed facts.rows) in
      (λ i. record { variable = number i; body = body i })

  equations_back : (es : List Equation) → AllByRecursion (IsEquationPlaced p.variables) es → AllByRecursion (HasBodyRows p.variables) es
      → AllByRecursion (λ (e : Equation). stands_under_many (length p.params) p.variables e ≡ false) es
      → map (resolved.equation_of (names_of p.variables) p.params) (map (equation_of p.params p.variables) es) ≡ es
  equations_back [] placed rows under = refl
  equations_back (e ∷ es) placed rows under = (λ i. equation_back e (variable_at e placed.0 rows.0 under.0) i ∷ equations_back es placed.1 rows.1 under.1 i)

  -- the variables
  variable_back : (v : Variable) → HasDomainRows v → length p.params ≤ v.domain.width → shapes.indices (length p.params) v ≤ 8 → IsMade p.params (variable_of p.params) (λ w. w) v
  variable_back v rows wide few =
      let count = shapes.indices (length p.params) v in
      let domain = domain_back p.params count v.domain.width (kept.scopes count (omega arith)) (omega arith) v.domain rows in
      (λ i. record { name = v.name; role = v.role; domain = domain i })

  all_back : (vs : List Variable) → AllByRecursion HasDomainRows vs → AllByRecursion (λ (v : Variable). length p.params ≤ v.domain.width) vs → AllByRecursion (λ (v : Variable). shapes.indices (length p.params) v ≤ 8) vs
      → AllByRecursion (IsMade p.params (variable_of p.params) (λ w. w)) vs
  all_back [] rows wide few = tt
  all_back (v ∷ vs) rows wide few = (variable_back v rows.0 wide.0 few.0, all_back vs rows.1 wide.1 few.1)

  map-id : (vs : List Variable) → map (λ (w : Variable). w) vs ≡ vs
  map-id [] = refl
  map-id (v ∷ vs) = ap (λ (rest : List Variable). v ∷ rest) (map-id vs)

  variables_back : variables_of (written_of p) ≡ p.variables
  variables_back =
      sections_back p.params (variable_of p.params) (λ w. w) p.variables program.placed.order
      (all_back p.variables (recursion_from_All HasDomainRows p.variables program.rows.domains) params-le kept.few) ∙ map-id p.variables

  pub names_back : declared_names (written_of p) ≡ names_of p.variables
  names_back = sym (variables-map (written_of p) (λ (v : Variable). v.name) (λ (d : Declaration). d.name) (λ role d. refl)) ∙ ap names_of variables_back

  -- the parameter domain
  parameters_back : union_of p.params (only_chains p.params p.pdom.disjuncts ∷ []) ≡ p.pdom
  parameters_back =
      let none : columns p.params 0 ≡ p.params = append-nil p.params in
      subst (λ (scope : Names). union_of scope (only_chains p.params p.pdom.disjuncts ∷ []) ≡ p.pdom) none
      (single_back p.params 0 (length p.params) (kept.scopes 0 (omega arith)) (omega arith) p.pdom program.rows.parameters program.placed.parameters_plain)

  pub system_back : system_of (written_of p) ≡ p
  system_back =
      let equations = ap (λ (names : Names). map (resolved.equation_of names p.params) (map (equation_of p.params p.variables) p.equations)) names_back
      ∙ equations_back p.equations (recursion_from_All (IsEquationPlaced p.variables) p.equations program.placed.bodies)
      (recursion_from_All (HasBodyRows p.variables) p.equations program.rows.bodies) kept.under in
      (λ i. record { name = p.name; params = p.params; pdom = parameters_back i; variables = variables_back i; equations = equations i })
