-- What each read of a program has.
use Rattle.std.proofs.Common.{◌≡◌, ℕ, zero, suc, ◌≤◌, List, [], ◌∷◌, ◌++◌, length, Bool, true, false, not, Option, Some, None, refl, sym, ap, subst, ◌∙◌, arith, All, cond}
use Rattle.std.specs.Prelude.{◌==◌, slice_get, MatchOption, is_none, if◌then◌else◌}
use Rattle.std.specs.Option.{option_map_or}
use Rattle.std.specs.List.{AllByRecursion, cons_option, filter_map, flat_map}
use Rattle.std.proofs.lemmas.Bool.{eq-eqb}
use Rattle.std.proofs.lemmas.List.Elements.{All-nil, All-cons, All-head, All-tail, All-append, recursion_from_All}
use Rattle.az_lin.specs.Affine.{Affine, AffineMap, Union, HasWidth}
use Rattle.az_lin.proofs.Lists.{All-left, All-right}
use Rattle.az_ast.specs.Meaning.{equation_of}
use Rattle.az_ast.specs.Placed.{IsAtWidth, AreAtWidth, IsEquationPlaced}
use Rattle.az_ast.specs.Shapes.{IsProgram, of_variable, is_input}
use Rattle.az_ast.specs.System.{System}
use Rattle.az_ast.specs.Term.{Term, constant, index, access, negation, binary, cases, reduction, Choices, none, choice, term}
use Rattle.az_ast.specs.Walks.{branch_domains}
use Rattle.az_ast.specs.declared.program.Equation.{Equation}
use Rattle.az_ast.specs.declared.program.Variable.{Variable}
use Rattle.az_ast.proofs.ProgramLaws.{equation_is}
use Rattle.expr_places.specs.Places.{Part, case_over, reduction_over, access_to, Place, places, places_below, places_of, body_scope, under_branch, under_reduction}
use Rattle.expr_places.specs.Reads.{ReadPlace, read_in, read_at, reads_of}
use Rattle.expr_places.specs.declared.scope.Scope.{Scope}
use Rattle.formula_refute.specs.Claims.{Claim, claims, EachRow, EachRowBelow, IsOver}
use Rattle.domain_check.specs.Checks.{Checks, checks_at, outside_of, reading_within}
use Rattle.domain_check.specs.Context.{context, in_force}
use Rattle.domain_check.specs.Inner.Ready.{IsReadAt, IsReadyChecks, IsReady}
use Rattle.domain_check.specs.declared.fault.CheckKind.TheVariants.{Outside}
use Rattle.domain_check.proofs.ProgramReady.{program_ready}
use Rattle.domain_check.proofs.Readiness.{item_at}
use Rattle.target_map.specs.Settings.{is_written}
use Rattle.target_map.specs.Times.{domain_of}
use Rattle.order_sets.specs.Reading.{IsReadOf, HasReads}

-- a place has no fewer columns than the body
module _ (count own : ℕ) where
  abbrev IsWide : Place → Type 0
  IsWide place = own ≤ place.scope.width

  mutual
    wide_places : (e : Term) (scope : Scope) → own ≤ scope.width → IsAtWidth count e scope.width → All IsWide (places e scope)
    wide_places (constant c) scope wide fits = All-nil IsWide
    wide_places (index row) scope wide fits = All-nil IsWide
    wide_places (access x f) scope wide fits = All-cons IsWide (record { part = access_to x f; scope = scope }) [] wide (All-nil IsWide)
    wide_places (negation e) scope wide fits = wide_places e scope wide fits
    wide_places (binary op a b) scope wide fits = All-append IsWide (places a scope) (places b scope) (wide_places a scope wide fits.0) (wide_places b scope wide fits.1)
    wide_places (cases branches) scope wide fits =
        All-cons IsWide (record { part = case_over (branch_domains branches); scope = scope }) (places_below branches scope) wide (wide_below branches scope wide fits)
    wide_places (reduction op extra domain e) scope wide fits =
        let columns = fits.0 in
        let inner : Scope = under_reduction scope domain in
        let P : ℕ → Type 0 = λ n. IsAtWidth count e n in
        All-cons IsWide (record { part = reduction_over extra domain; scope = scope }) (places e inner) wide (wide_places e inner (omega arith) (subst P (sym columns) fits.2))

    wide_below : (branches : Choices) (scope : Scope) → own ≤ scope.width → AreAtWidth count branches scope.width → All IsWide (places_below branches scope)
    wide_below none scope wide fits = All-nil IsWide
    wide_below (choice domain e rest) scope wide fits =
        All-append IsWide (places e (under_branch scope domain)) (places_below rest scope) (wide_places e (under_branch scope domain) wide fits.1) (wide_below rest scope wide fits.2)

-- what a place has, a read there has
some-of : {A : Type 0} (o : Option A) (P : A → Type 0) → MatchOption o ⊥ P → (x : A) × (o ≡ Some x) × P x
some-of None P h = absurd h
some-of (Some x) P h = (x, refl, h)

-- what all rows have, those of the first members have
below_first : (P : Affine → Type 0) (cs ds : List Claim) → EachRowBelow P (claims (cs ++ ds)) → AllByRecursion (EachRow P) cs
below_first P [] ds rows = tt
below_first P (c ∷ cs) ds rows = (rows.0, below_first P cs ds rows.1)

-- the context of an access
context_over : (p : System) (scope : Scope) (x : ℕ) (f : AffineMap) (variable : Variable) → slice_get p.variables x ≡ Some variable
    → All IsReadyChecks (checks_at p (record { part = access_to x f; scope = scope })) → AllByRecursion (IsOver scope.width) (context scope)
context_over p scope x f variable is ready =
    let outside : Claim = outside_of (reading_within p f variable) in
    let all : Claim = in_force scope (outside ∷ []) in
    let checks : Checks = record { kind = Outside; width = scope.width; claims = all ∷ [] } in
    let made : Variable → List Checks = λ v. record { kind = Outside; width = scope.width; claims = in_force scope (outside_of (reading_within p f v) ∷ []) ∷ [] } ∷ [] in
    let one : checks_at p (record { part = access_to x f; scope = scope }) ≡ checks ∷ [] = ap (λ o. option_map_or made o []) is in
    let P : List Checks → Type 0 = λ list. All IsReadyChecks list in
    let here : IsReadyChecks checks = All-head IsReadyChecks checks [] (subst P one ready) in
    below_first (HasWidth scope.width) (context scope) (outside ∷ []) (All-head (IsOver scope.width) all [] here.1)

module _ (p : System) (x : ℕ) where
  abbrev own : ℕ
  own = (domain_of p x).width

  read_is : (scope : Scope) (part : Part) (read : ReadPlace) → read_in p.variables scope part ≡ Some read → IsReady p (record { part = part; scope = scope }) → own ≤ scope.width → IsReadOf p x read
  read_is scope (case_over domains) read is ready wide = let two : None ≡ Some read = is in cc
  read_is scope (reduction_over extra domain) read is ready wide = let two : None ≡ Some read = is in cc
  read_is scope (access_to y f) read is ready wide = by (of_variable p.variables (λ variable. not (is_input variable.role)) y) refl is
    where
      by : (b : Bool) → of_variable p.variables (λ variable. not (is_input variable.role)) y ≡ b
          → (if b then Some (let made : ReadPlace = record { variable = y; map = f; scope = scope } in made) else None) ≡ Some read → IsReadOf p x read
      by true written found =
          let made : ReadPlace = record { variable = y; map = f; scope = scope } in
          let some : Some made ≡ Some read = found in
          let same : made ≡ read = cc in
          let there = some-of (slice_get p.variables y) (IsReadAt p scope f) ready.part in
          let result : IsReadOf p x made = record {
            variable = there.0;
            declared = there.1;
            at = there.2;
            written = written;
            inside = recursion_from_All (λ (domain : Union). domain.width ≤ scope.width) scope.domains ready.room.inside;
            narrow = ready.room.narrow;
            context = context_over p scope y f there.0 there.1 ready.checks;
            reader = wide;
          } in
          subst (IsReadOf p x) same result
      by false other found = let two : None ≡ Some read = found in cc

  reads_are : (ps : List Place) → All (IsReady p) ps → All (λ (place : Place). own ≤ place.scope.width) ps → All (IsReadOf p x) (filter_map (read_at p.variables) ps)
  reads_are [] ready wide = All-nil (IsReadOf p x)
  reads_are (place ∷ ps) ready wide =
      by (read_at p.variables place) refl (reads_are ps (All-tail (IsReady p) place ps ready) (All-tail (λ (place : Place). own ≤ place.scope.width) place ps wide))
    where
      by : (o : Option ReadPlace) → read_at p.variables place ≡ o → All (IsReadOf p x) (filter_map (read_at p.variables) ps) → All (IsReadOf p x) (cons_option o (filter_map (read_at p.variables) ps))
      by None is rest = rest
      by (Some read) is rest =
          All-cons (IsReadOf p x) read (filter_map (read_at p.variables) ps)
          (read_is place.scope place.part read is (All-head (IsReady p) place ps ready) (All-head (λ (place : Place). own ≤ place.scope.width) place ps wide)) rest

filtered_fewer : {A B : Type 0} (f : A → Option B) (xs : List A) → length (filter_map f xs) ≤ length xs
filtered_fewer f [] = omega arith
filtered_fewer {A} {B} f (x ∷ xs) = by (f x) (filtered_fewer f xs)
  where
    by : (o : Option B) → length (filter_map f xs) ≤ length xs → length (cons_option o (filter_map f xs)) ≤ length (x ∷ xs)
    by None rest = omega (arith, rest)
    by (Some y) rest = omega (arith, rest)

-- the equations of a program
abbrev domain_in : Option Variable → Union
domain_in o = option_map_or (λ variable. variable.domain) o (record { width = 0; disjuncts = [] })

module _ (p : System) (program : IsProgram p) where
  wide_equation : (equation : Equation) (o : Option Variable) → slice_get p.variables equation.variable ≡ o
      → MatchOption o ⊥ (λ variable. IsAtWidth (length p.variables) (term equation.body) variable.domain.width)
      → All (λ (place : Place). (domain_in o).width ≤ place.scope.width) (option_map_or (λ variable. places (term equation.body) (body_scope p variable)) o [])
  wide_equation equation None is placed = absurd placed
  wide_equation equation (Some variable) is placed = wide_places (length p.variables) variable.domain.width (term equation.body) (body_scope p variable) (omega arith) placed

  abbrev EachRead : Equation → Type 0
  EachRead equation = All (IsReadOf p equation.variable) (reads_of p equation)

  has_reads : (equation : Equation) → IsEquationPlaced p.variables equation → All (IsReady p) (places_of p equation) → EachRead equation
  has_reads equation placed ready =
      reads_are p equation.variable (places_of p equation) ready (wide_equation equation (slice_get p.variables equation.variable) refl placed)

  have_reads : (equations : List Equation) → All (IsEquationPlaced p.variables) equations → All (IsReady p) (flat_map (places_of p) equations) → All EachRead equations
  have_reads [] placed ready = All-nil EachRead
  have_reads (equation ∷ equations) placed ready =
      let here = places_of p equation in
      let rest = flat_map (places_of p) equations in
      All-cons EachRead equation equations (has_reads equation (All-head (IsEquationPlaced p.variables) equation equations placed) (All-left (IsReady p) here rest ready))
      (have_reads equations (All-tail (IsEquationPlaced p.variables) equation equations placed) (All-right (IsReady p) here rest ready))

  pub all_reads : All EachRead p.equations
  all_reads = have_reads p.equations program.placed.bodies (program_ready p program).places

  -- the variable of an equation is an output or local
  found_in : (x : ℕ) (equations : List Equation) (k : ℕ) (equation : Equation) → slice_get equations k ≡ Some equation → equation.variable ≡ x → is_none (equation_of equations x) ≡ false
  found_in x [] k equation is same = cc
  found_in x (e ∷ equations) k equation is same = by (e.variable == x) refl k is (λ j there. found_in x equations j equation there same)
    where
      by : (b : Bool) → (e.variable == x) ≡ b → (k : ℕ) → slice_get (e ∷ equations) k ≡ Some equation
          → ((j : ℕ) → slice_get equations j ≡ Some equation → is_none (equation_of equations x) ≡ false) → is_none (cond b (Some e) (equation_of equations x)) ≡ false
      by true here k is rest = refl
      by false other zero is rest =
          let some : Some e ≡ Some equation = is in
          let first : e ≡ equation = cc in
          let yes : (e.variable == x) ≡ true = eq-eqb e.variable x (ap (λ (q : Equation). q.variable) first ∙ same) in
          cc
      by false other (suc j) is rest = rest j is

  is_declared : (equation : Equation) → IsEquationPlaced p.variables equation → (k : ℕ) → slice_get p.equations k ≡ Some equation → is_written p equation.variable
  is_declared equation placed k is = by (slice_get p.variables equation.variable) refl placed
    where
      by : (o : Option Variable) → slice_get p.variables equation.variable ≡ o → MatchOption o ⊥ (λ variable. IsAtWidth (length p.variables) (term equation.body) variable.domain.width)
          → option_map_or (λ (v : Variable). not (is_input v.role)) o false ≡ true
      by None there placed = absurd placed
      by (Some variable) there placed =
          let found : is_none (equation_of p.equations equation.variable) ≡ false = found_in equation.variable p.equations k equation is refl in
          ap not (sym (equation_is p program equation.variable variable there) ∙ found)

  all_from : (equations : List Equation) → ((j : ℕ) (e : Equation) → slice_get equations j ≡ Some e → is_written p e.variable) → All (λ (e : Equation). is_written p e.variable) equations
  all_from [] each = All-nil (λ (e : Equation). is_written p e.variable)
  all_from (equation ∷ equations) each =
      All-cons (λ (e : Equation). is_written p e.variable) equation equations (each 0 equation refl) (all_from equations (λ j e is. each (suc j) e is))

  pub equations_written : All (λ (e : Equation). is_written p e.variable) p.equations
  equations_written =
      all_from p.equations (λ j e is. is_declared e (item_at (IsEquationPlaced p.variables) p.equations j e is (recursion_from_All (IsEquationPlaced p.variables) p.equations program.placed.bodies)) j is)

  -- all of it for each equation
  fewer : (equation : Equation) → length (places_of p equation) ≤ 512 → length (reads_of p equation) ≤ 512
  fewer equation few = omega (arith, few, filtered_fewer (read_at p.variables) (places_of p equation))

  gathered : (equations : List Equation) → All (λ (e : Equation). is_written p e.variable) equations → All EachRead equations → All (λ (e : Equation). length (places_of p e) ≤ 512) equations
      → All (λ (e : Equation). HasReads p e.variable (reads_of p e)) equations
  gathered [] written each few = All-nil (λ (e : Equation). HasReads p e.variable (reads_of p e))
  gathered (equation ∷ equations) written each few =
      let W : Equation → Type 0 = λ e. is_written p e.variable in
      let F : Equation → Type 0 = λ e. length (places_of p e) ≤ 512 in
      All-cons (λ (e : Equation). HasReads p e.variable (reads_of p e)) equation equations
      (record { written = All-head W equation equations written; each = All-head EachRead equation equations each; few = fewer equation (All-head F equation equations few) })
      (gathered equations (All-tail W equation equations written) (All-tail EachRead equation equations each) (All-tail F equation equations few))

  pub ready_reads : All (λ (e : Equation). HasReads p e.variable (reads_of p e)) p.equations
  ready_reads = gathered p.equations equations_written all_reads (program_ready p program).short
