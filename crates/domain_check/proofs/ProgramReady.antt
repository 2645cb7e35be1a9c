-- A program is ready for all its checks.
use Rattle.std.proofs.Common.{◌≡◌, ℕ, zero, suc, ◌+◌, ◌-◌, ◌*◌, ◌<◌, ◌≤◌, ℤ, pos, negsuc, List, [], ◌∷◌, ◌++◌, length, map, All, false, Option, Some, None, refl, ap, ◌∙◌, arith, length-append}
use Rattle.std.specs.Prelude.{slice_get, MatchOption, nat_lt}
use Rattle.std.specs.Option.{option_map_or}
use Rattle.std.specs.List.{flat_map, range_with_len, AllByRecursion}
use Rattle.std.proofs.lemmas.Bool.{ltb-false}
use Rattle.std.proofs.lemmas.Grind.{flat_map-append}
use Rattle.std.proofs.lemmas.List.Elements.{All-nil, All-cons, All-head, All-tail, All-append, All-from_recursion, recursion_from_All}
use Rattle.az_lin.specs.Affine.{Affine, Polyhedron, Union}
use Rattle.az_ast.specs.Nodes.{nodes}
use Rattle.az_ast.specs.Placed.{IsAtWidth, IsEquationPlaced}
use Rattle.az_ast.specs.Rows.{IsDomainAt, HasRowsAt, HasBodyRows, HasDomainRows}
use Rattle.az_ast.specs.Shapes.{IsProgram, has_other_arity, indices, stands_under_many}
use Rattle.az_ast.specs.System.{System}
use Rattle.az_ast.specs.Term.{term}
use Rattle.az_ast.specs.Walks.{parts, extra_under, domains}
use Rattle.az_ast.specs.declared.program.Equation.{Equation}
use Rattle.az_ast.specs.declared.program.Variable.{Variable}
use Rattle.az_ast.proofs.ProgramLaws.{few_parts, few_indices, under_few, few_nodes, few_disjuncts, has_arities}
use Rattle.az_lin.proofs.Lists.{All-left}
use Rattle.expr_places.specs.Directions.{slope, moves}
use Rattle.expr_places.specs.Places.{Place, places, places_of, body_scope}
use Rattle.expr_places.specs.declared.scope.Scope.{Scope}
use Rattle.formula_refute.specs.Cases.{system_of, most_systems}
use Rattle.formula_refute.specs.Claims.{Claim, all_of, IsOver}
use Rattle.formula_refute.specs.Domains.{atoms}
use Rattle.domain_check.specs.Cases.{Case, cases_of, cases_of_claim}
use Rattle.domain_check.specs.Checks.{unbounded}
use Rattle.domain_check.specs.Directions.{direction, both_ways, along_each, directions_in}
use Rattle.domain_check.specs.Stops.{IsFew, all_places}
use Rattle.domain_check.specs.Inner.Ready.{IsReady, IsReadyDomain, IsReadyProgram}
use Rattle.domain_check.specs.declared.fault.CheckKind.{CheckKind}
use Rattle.domain_check.specs.declared.fault.CheckKind.TheVariants.{Unbounded}
use Rattle.domain_check.proofs.Balance.{one_case}
use Rattle.domain_check.proofs.Readiness.{IsScopeAt, IsSized, IsTold, item_at, own_within, wider_within, ready, fewer_places}
use Rattle.domain_check.proofs.Widths.{IsWithin, directions_over}

-- a domain has few systems over directions
module _ (kind : CheckKind) (extra : ℕ) where
  abbrev cases_in : List Claim → List Case
  cases_in = flat_map (cases_of_claim kind extra)

  one_system : (rows : List Affine) → length (cases_of_claim kind extra (all_of (atoms rows))) ≡ 1
  one_system rows =
      ap (λ (all : List (List Affine)). length (map (λ (system : Polyhedron). let made : Case = record { kind = kind; system = system } in made) (map (system_of extra) all))) (one_case rows)

  few_ways : (slopes : List Affine) (from count : ℕ) → length (cases_in (flat_map (both_ways extra slopes) (range_with_len from count))) ≤ 2 * count
  few_ways slopes from zero = omega arith
  few_ways slopes from (suc count) =
      let up = cases_of_claim kind extra (direction extra slopes from (pos 1)) in
      let down = cases_of_claim kind extra (direction extra slopes from (negsuc 0)) in
      let rest = cases_in (flat_map (both_ways extra slopes) (range_with_len (from + 1) count)) in
      omega (
        arith,
        one_system (slopes ++ moves extra from (pos 1) ∷ []),
        one_system (slopes ++ moves extra from (negsuc 0) ∷ []),
        few_ways slopes (from + 1) count,
        length-append up (down ++ rest),
        length-append down rest,
      )

  few_of_disjuncts : (F : Polyhedron → List Affine) (conjs : List Polyhedron) → extra ≤ 8 → length (cases_in (flat_map (λ (conj : Polyhedron). along_each extra (F conj)) conjs)) ≤ 16 * length conjs
  few_of_disjuncts F [] small = omega arith
  few_of_disjuncts F (conj ∷ conjs) small =
      let here = along_each extra (F conj) in
      let rest = flat_map (λ (conj : Polyhedron). along_each extra (F conj)) conjs in
      omega (
        arith,
        small,
        few_ways (F conj) 0 extra,
        few_of_disjuncts F conjs small,
        ap (λ (cs : List Case). length cs) (flat_map-append (cases_of_claim kind extra) here rest),
        length-append (cases_in here) (cases_in rest),
      )

module _ (p : System) (program : IsProgram p) where
  abbrev params : ℕ
  params = length p.params

  params_at : IsDomainAt (length p.params) p.pdom
  params_at = program.rows.parameters

  domain_ready : (variable : Variable) → length p.params ≤ variable.domain.width → indices (length p.params) variable ≤ 8 → length variable.domain.disjuncts ≤ 8 → IsReadyDomain p variable
  domain_ready variable inside few short =
      let extra = variable.domain.width - params in
      let some = few_parts p program in
      let bound = some.1 in
      record {
        params = inside;
        narrow = omega arith;
        checks = (omega arith, All-from_recursion (IsOver extra) (directions_in [] variable.domain params extra) (directions_over params extra [] variable.domain));
        few = (let all = few_of_disjuncts Unbounded extra (λ (conj : Polyhedron). map (slope params extra) conj.rows) variable.domain.disjuncts few in omega (arith, all));
      }

  abbrev IsDeclared : Variable → Type 0
  IsDeclared variable = length p.params ≤ variable.domain.width

  domains_ready : (variables : List Variable) → All IsDeclared variables → All (λ (v : Variable). indices (length p.params) v ≤ 8) variables
      → All (λ (d : Union). length d.disjuncts ≤ 8) (map (λ (v : Variable). v.domain) variables) → All (IsReadyDomain p) variables
  domains_ready [] declared few short = All-nil (IsReadyDomain p)
  domains_ready (variable ∷ variables) declared few short =
      let domains = map (λ (v : Variable). v.domain) variables in
      All-cons (IsReadyDomain p) variable variables
      (domain_ready variable (All-head IsDeclared variable variables declared) (All-head (λ (v : Variable). indices (length p.params) v ≤ 8) variable variables few)
      (All-head (λ (d : Union). length d.disjuncts ≤ 8) variable.domain domains short))
      (domains_ready variables (All-tail IsDeclared variable variables declared) (All-tail (λ (v : Variable). indices (length p.params) v ≤ 8) variable variables few)
      (All-tail (λ (d : Union). length d.disjuncts ≤ 8) variable.domain domains short))

  all_domains_ready : All (IsReadyDomain p) p.variables
  all_domains_ready =
      let few : Union → Type 0 = λ d. length d.disjuncts ≤ 8 in
      let own = map (λ (v : Variable). v.domain) p.variables in
      let others = flat_map (λ (e : Equation). domains (term e.body)) p.equations in
      domains_ready p.variables program.placed.domains (few_indices p program) (All-left few own others (All-tail few p.pdom (own ++ others) (few_disjuncts p program)))

  each_sized : (variables : List Variable) → All (IsReadyDomain p) variables → All (IsSized p) variables
  each_sized [] h = All-nil (IsSized p)
  each_sized (variable ∷ variables) h =
      let here = All-head (IsReadyDomain p) variable variables h in
      All-cons (IsSized p) variable variables (here.params, here.narrow) (each_sized variables (All-tail (IsReadyDomain p) variable variables h))

  sized : All (IsSized p) p.variables
  sized = each_sized p.variables all_domains_ready

  body_at : (x : ℕ) (variable : Variable) → slice_get p.variables x ≡ Some variable → IsScopeAt p params_at (body_scope p variable)
  body_at x variable is =
      let bounds = item_at (IsSized p) p.variables x variable is (recursion_from_All (IsSized p) p.variables sized) in
      let own : IsDomainAt variable.domain.width variable.domain = item_at HasDomainRows p.variables x variable is (recursion_from_All HasDomainRows p.variables program.rows.domains) in
      let outer = (wider_within (length p.params) variable.domain.width bounds.0 (p.pdom ∷ []) (own_within (length p.params) p.pdom params_at, tt)).0 in
      record { params = bounds.0; domains = (outer, (own_within variable.domain.width variable.domain own, tt)); reductions = tt }

  places_ready : (equation : Equation) (o : Option Variable) → slice_get p.variables equation.variable ≡ o
      → MatchOption o ⊥ (λ variable. IsAtWidth (length p.variables) (term equation.body) variable.domain.width)
      → MatchOption o ⊥ (λ variable. HasRowsAt (term equation.body) variable.domain.width)
      → option_map_or (λ variable. nat_lt 16 (indices (length p.params) variable + extra_under (term equation.body))) o false ≡ false
      → AllByRecursion (IsTold p params_at sized) (parts (term equation.body))
      → All (IsReady p) (option_map_or (λ variable. places (term equation.body) (body_scope p variable)) o [])
  places_ready equation None is placed rows under told = absurd placed
  places_ready equation (Some variable) is placed rows under told =
      let bounds = item_at (IsSized p) p.variables equation.variable variable is (recursion_from_All (IsSized p) p.variables sized) in
      let inside = bounds.0 in
      let small = ltb-false 16 (indices (length p.params) variable + extra_under (term equation.body)) under in
      let some = few_parts p program in
      let few = some.1 in
      ready p params_at sized (term equation.body) (body_scope p variable) (body_at equation.variable variable is) placed rows (omega arith) told

  places_short : (equation : Equation) (o : Option Variable) → nodes (term equation.body) ≤ 512
      → length (option_map_or (λ variable. places (term equation.body) (body_scope p variable)) o []) ≤ 512
  places_short equation None few = omega arith
  places_short equation (Some variable) few = omega (arith, fewer_places (term equation.body) (body_scope p variable), few)

  abbrev IsUnder : Equation → Type 0
  IsUnder equation = stands_under_many (length p.params) p.variables equation ≡ false

  abbrev HasArities : Equation → Type 0
  HasArities equation = AllByRecursion (λ part. has_other_arity (length p.params) p.variables part ≡ false) (parts (term equation.body))

  equations_ready : (equations : List Equation) → All (IsEquationPlaced p.variables) equations → All (HasBodyRows p.variables) equations → All IsUnder equations → All HasArities equations
      → All (IsReady p) (flat_map (places_of p) equations)
  equations_ready [] placed rows under told = All-nil (IsReady p)
  equations_ready (equation ∷ equations) placed rows under told =
      All-append (IsReady p) (places_of p equation) (flat_map (places_of p) equations)
      (places_ready equation (slice_get p.variables equation.variable) refl (All-head (IsEquationPlaced p.variables) equation equations placed)
      (All-head (HasBodyRows p.variables) equation equations rows) (All-head IsUnder equation equations under) (All-head HasArities equation equations told))
      (equations_ready equations (All-tail (IsEquationPlaced p.variables) equation equations placed) (All-tail (HasBodyRows p.variables) equation equations rows)
      (All-tail IsUnder equation equations under) (All-tail HasArities equation equations told))

  equations_short : (equations : List Equation) → All (λ (e : Equation). nodes (term e.body) ≤ 512) equations → All (λ (e : Equation). length (places_of p e) ≤ 512) equations
  equations_short [] few = All-nil (λ (e : Equation). length (places_of p e) ≤ 512)
  equations_short (equation ∷ equations) few =
      All-cons (λ (e : Equation). length (places_of p e) ≤ 512) equation equations
      (places_short equation (slice_get p.variables equation.variable) (All-head (λ (e : Equation). nodes (term e.body) ≤ 512) equation equations few))
      (equations_short equations (All-tail (λ (e : Equation). nodes (term e.body) ≤ 512) equation equations few))

  pub program_ready : IsReadyProgram p
  program_ready = record {
    count = (few_parts p program).0;
    domains = all_domains_ready;
    places = equations_ready p.equations program.placed.bodies program.rows.bodies (under_few p program) (has_arities p program);
    short = equations_short p.equations (few_nodes p program);
  }
