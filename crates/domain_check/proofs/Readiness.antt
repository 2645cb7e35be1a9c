-- Each place of a program is ready for its checks.
use Rattle.std.proofs.Common.{◌≡◌, ℕ, zero, suc, ◌+◌, ◌-◌, ◌*◌, ◌<◌, ◌≤◌, ℤ, List, [], ◌∷◌, ◌++◌, length, map, All, Bool, true, false, Option, Some, None, not, refl, sym, ap, subst, ◌∙◌, arith, max, length-append}
use Rattle.std.specs.Prelude.{slice_get, MatchOption, nat_lt, ◌==◌}
use Rattle.std.specs.Option.{option_map_or}
use Rattle.std.specs.List.{flat_map, AllByRecursion}
use Rattle.std.proofs.lemmas.Bool.{ltb-false, eqb-true, not-false}
use Rattle.std.proofs.lemmas.List.Elements.{All-nil, All-cons, All-append, All-from_recursion, recursion_from_All}
use Rattle.az_lin.specs.Affine.{Affine, AffineMap, Polyhedron, Union, HasWidth}
use Rattle.az_lin.specs.Columns.{reading}
use Rattle.az_ast.specs.Nodes.{nodes, nodes_below}
use Rattle.az_ast.specs.Placed.{IsAtWidth, AreAtWidth}
use Rattle.az_ast.specs.Rows.{IsRowAt, IsMapAt, IsConjAt, IsDomainAt, HasRowsAt, HaveRowsAt}
use Rattle.az_ast.specs.Shapes.{has_other_arity, indices}
use Rattle.az_ast.specs.System.{System}
use Rattle.az_ast.specs.Term.{Term, constant, index, access, negation, binary, cases, reduction, Choices, none, choice, term}
use Rattle.az_ast.specs.Walks.{parts, parts_below, extra_under, extra_below, branch_domains}
use Rattle.az_ast.specs.declared.program.Variable.{Variable}
use Rattle.az_lin.proofs.Lists.{All-left, All-right}
use Rattle.expr_places.specs.Places.{Part, case_over, reduction_over, access_to, Place, places, places_below, under_branch, under_reduction}
use Rattle.expr_places.specs.declared.scope.Scope.{Scope}
use Rattle.formula_refute.specs.Claims.{Claim, IsOver}
use Rattle.domain_check.specs.Checks.{Checks, checks_of, overlaps, gap, outside_of, reading_within, unbounded}
use Rattle.domain_check.specs.Context.{in_force}
use Rattle.domain_check.specs.Directions.{rows_of, directions_in}
use Rattle.domain_check.specs.Inner.Ready.{HasRoom, IsReadAt, IsReadyPart, IsReadyChecks, IsReady}
use Rattle.domain_check.specs.declared.fault.CheckKind.TheVariants.{Unbounded, Overlap, Gap, Outside, Endless}
use Rattle.domain_check.proofs.Falsity.{each_weaker, each_left, each_right}
use Rattle.domain_check.proofs.Widths.{IsWithin, domain_rows, each_join, overlaps_over, gap_over, in_force_over, before_over, directions_over}

pub wider_within : (width wide : ℕ) → width ≤ wide → (domains : List Union) → AllByRecursion (IsWithin width) domains → AllByRecursion (IsWithin wide) domains
wider_within width wide more domains h =
    each_weaker (IsWithin width) (IsWithin wide) (λ domain w. let inside = w.inside in record { inside = omega arith; at = w.at }) domains h

pub own_within : (width : ℕ) (domain : Union) → IsDomainAt width domain → IsWithin width domain
own_within width domain at =
    let P : ℕ → Type 0 = λ n. IsDomainAt n domain in
    let same = at.columns in
    record { inside = omega arith; at = subst P (sym at.columns) at }

-- the rows of domains in fewer columns are short
short_rows : (width : ℕ) (domain : Union) → IsWithin width domain → All (λ (row : Affine). length row.coefs ≤ width) (rows_of domain)
short_rows width domain within = conjs_short domain.disjuncts (domain_rows domain.width domain within.at)
  where
    conjs_short : (conjs : List Polyhedron) → AllByRecursion (λ (conj : Polyhedron). AllByRecursion (HasWidth domain.width) conj.rows) conjs
        → All (λ (row : Affine). length row.coefs ≤ width) (flat_map (λ (conj : Polyhedron). conj.rows) conjs)
    conjs_short [] h = All-nil (λ (row : Affine). length row.coefs ≤ width)
    conjs_short (conj ∷ conjs) h =
        All-append (λ (row : Affine). length row.coefs ≤ width) conj.rows (flat_map (λ (conj : Polyhedron). conj.rows) conjs)
        (All-from_recursion (λ (row : Affine). length row.coefs ≤ width) conj.rows
        (each_weaker (HasWidth domain.width) (λ (row : Affine). length row.coefs ≤ width) (λ row is. let inside = within.inside in omega arith) conj.rows h.0))
        (conjs_short conjs h.1)

all_short : (width : ℕ) (domains : List Union) → AllByRecursion (IsWithin width) domains → All (λ (row : Affine). length row.coefs ≤ width) (flat_map rows_of domains)
all_short width [] h = All-nil (λ (row : Affine). length row.coefs ≤ width)
all_short width (domain ∷ domains) h =
    All-append (λ (row : Affine). length row.coefs ≤ width) (rows_of domain) (flat_map rows_of domains) (short_rows width domain h.0) (all_short width domains h.1)

module _ (p : System) (params_at : IsDomainAt (length p.params) p.pdom) where
  abbrev HasArity : Term → Type 0
  HasArity part = has_other_arity (length p.params) p.variables part ≡ false

  pub record IsScopeAt (scope : Scope) : Type 0 where
    pub params : length p.params ≤ scope.width
    pub domains : AllByRecursion (IsWithin scope.width) scope.domains
    pub reductions : AllByRecursion (IsWithin scope.width) scope.reductions

  branch_scope : (scope : Scope) (domain : Union) → IsScopeAt scope → IsDomainAt scope.width domain → IsScopeAt (under_branch scope domain)
  branch_scope scope domain at d = record {
    params = at.params;
    domains = each_join (IsWithin scope.width) scope.domains (domain ∷ []) at.domains (own_within scope.width domain d, tt);
    reductions = at.reductions;
  }

  reduction_scope : (scope : Scope) (extra : ℕ) (domain : Union) → IsScopeAt scope → IsDomainAt (scope.width + extra) domain → IsScopeAt (under_reduction scope domain)
  reduction_scope scope extra domain at d =
      let P : ℕ → Type 0 = λ n. IsDomainAt n domain in
      let columns = d.columns in
      let params = at.params in
      let more : scope.width ≤ domain.width = omega arith in
      let own : IsWithin domain.width domain = own_within domain.width domain (subst P (sym d.columns) d) in
      record {
        params = omega arith;
        domains = each_join (IsWithin domain.width) scope.domains (domain ∷ []) (wider_within scope.width domain.width more scope.domains at.domains) (own, tt);
        reductions = each_join (IsWithin domain.width) scope.reductions (domain ∷ []) (wider_within scope.width domain.width more scope.reductions at.reductions) (own, tt);
      }

  module _ (scope : Scope) (at : IsScopeAt scope) (narrow : scope.width ≤ 64) where
    room : HasRoom scope
    room = record {
      narrow = narrow;
      inside = All-from_recursion (λ (domain : Union). domain.width ≤ scope.width) scope.domains
          (each_weaker (IsWithin scope.width) (λ (domain : Union). domain.width ≤ scope.width) (λ domain w. w.inside) scope.domains at.domains);
    }

    ready_list : (width : ℕ) → width ≤ 4096 → (claims : List Claim) → AllByRecursion (IsOver width) claims → (width ≤ 4096) × All (IsOver width) claims
    ready_list width few claims over = (few, All-from_recursion (IsOver width) claims over)

    case_ready : (domains : List Union) → AllByRecursion (IsDomainAt scope.width) domains → IsReady p (record { part = case_over domains; scope = scope })
    case_ready domains h =
        let first : Checks = record { kind = Overlap; width = scope.width; claims = overlaps scope domains } in
        let second : Checks = record { kind = Gap; width = scope.width; claims = gap scope domains ∷ [] } in
        record {
          room = room;
          part = tt;
          checks = All-cons IsReadyChecks first (second ∷ []) (ready_list scope.width (omega arith) (overlaps scope domains) (overlaps_over scope at.domains domains h))
              (All-cons IsReadyChecks second [] (ready_list scope.width (omega arith) second.claims (gap_over scope at.domains domains h, tt)) (All-nil IsReadyChecks));
        }

    reduction_ready : (extra : ℕ) (domain : Union) → scope.width + extra ≤ 64 → IsReady p (record { part = reduction_over extra domain; scope = scope })
    reduction_ready extra domain small =
        let check : Checks = record { kind = Endless; width = extra; claims = directions_in (p.pdom ∷ scope.reductions) domain scope.width extra } in
        let pdom_within : IsWithin scope.width p.pdom = wide_pdom in
        record {
          room = room;
          part = (small, all_short scope.width (p.pdom ∷ scope.reductions) (pdom_within, at.reductions));
          checks = All-cons IsReadyChecks check [] (ready_list extra (omega arith) check.claims (directions_over scope.width extra (p.pdom ∷ scope.reductions) domain)) (All-nil IsReadyChecks);
        }
      where
        wide_pdom : IsWithin scope.width p.pdom
        wide_pdom = (wider_within (length p.params) scope.width at.params (p.pdom ∷ []) (own_within (length p.params) p.pdom params_at, tt)).0

    access_ready : (x : ℕ) (f : AffineMap) → IsMapAt scope.width f → (o : Option Variable) → slice_get p.variables x ≡ o
        → MatchOption o ⊥ (λ variable. (length f.rows ≡ indices (length p.params) variable) × (length p.params ≤ variable.domain.width) × (variable.domain.width ≤ 64))
        → IsReady p (record { part = access_to x f; scope = scope })
    access_ready x f map_at None is h = absurd h
    access_ready x f map_at (Some variable) is h =
        let check : Checks = record { kind = Outside; width = scope.width; claims = in_force scope (outside_of (reading_within p f variable) ∷ []) ∷ [] } in
        let read : IsReadAt p scope f variable = record {
          columns = map_at.columns;
          widths = (let P : ℕ → Type 0 = λ n. All (HasWidth n) f.rows in subst P (sym map_at.columns)
              (All-from_recursion (HasWidth scope.width) f.rows (each_weaker (IsRowAt scope.width) (HasWidth scope.width) (λ row r. r.0) f.rows (recursion_from_All (IsRowAt scope.width) f.rows map_at.rows))));
          params = at.params;
          rows = (let same = h.0 in let long = h.1 in omega arith);
          narrow = h.2;
        } in
        let Q : Option Variable → Type 0 = λ o. MatchOption o ⊥ (IsReadAt p scope f) in
        let R : Option Variable → Type 0 = λ o. All IsReadyChecks (option_map_or
        (λ variable. record { kind = Outside; width = scope.width; claims = in_force scope (outside_of (reading_within p f variable) ∷ []) ∷ [] } ∷ []) o []) in
        record {
          room = room;
          part = subst Q (sym is) read;
          checks = subst R (sym is) (All-cons IsReadyChecks check []
              (ready_list scope.width (omega arith) check.claims (
                in_force_over scope at.domains (outside_of (reading_within p f variable) ∷ [])
                    (before_over scope.width (reading (length p.params) f) variable.domain map_at.columns, tt),
                tt,
              ))
              (All-nil IsReadyChecks));
        }

pub item_at : {A : Type 0} (P : A → Type 0) (items : List A) (x : ℕ) (item : A) → slice_get items x ≡ Some item → AllByRecursion P items → P item
item_at P [] x item is all = cc
item_at P (y ∷ items) zero item is all = let same : y ≡ item = cc in subst P same all.0
item_at P (y ∷ items) (suc x) item is all = item_at P items x item is all.1

abbrev pub IsSized : System → Variable → Type 0
IsSized p v = (length p.params ≤ v.domain.width) × (v.domain.width ≤ 64)

-- all places of an expression
module _ (p : System) (params_at : IsDomainAt (length p.params) p.pdom) (sized : All (IsSized p) p.variables) where
  abbrev pub IsTold : Term → Type 0
  IsTold part = has_other_arity (length p.params) p.variables part ≡ false

  arity_of : (x : ℕ) (f : AffineMap) (o : Option Variable) → slice_get p.variables x ≡ o → x < length p.variables → IsTold (access x f)
      → MatchOption o ⊥ (λ variable. (length f.rows ≡ indices (length p.params) variable) × (length p.params ≤ variable.domain.width) × (variable.domain.width ≤ 64))
  arity_of x f None is below told = absurd (no_variable p.variables x below is)
    where
      no_variable : (vs : List Variable) (x : ℕ) → x < length vs → slice_get vs x ≡ None → ⊥
      no_variable [] x below is = omega arith
      no_variable (v ∷ vs) zero below is = cc
      no_variable (v ∷ vs) (suc x) below is = no_variable vs x (omega arith) is
  arity_of x f (Some variable) is below told =
      let P : Option Variable → Type 0 = λ o. option_map_or (λ (v : Variable). not (length f.rows == indices (length p.params) v)) o false ≡ false in
      let same : (length f.rows == indices (length p.params) variable) ≡ true = not-false (length f.rows == indices (length p.params) variable) (subst P is told) in
      let bounds = item_at (IsSized p) p.variables x variable is (recursion_from_All (IsSized p) p.variables sized) in
      (eqb-true (length f.rows) (indices (length p.params) variable) same, bounds.0, bounds.1)

  mutual
    pub ready : (e : Term) (scope : Scope) → IsScopeAt p params_at scope → IsAtWidth (length p.variables) e scope.width → HasRowsAt e scope.width → scope.width + extra_under e ≤ 64
        → AllByRecursion IsTold (parts e) → All (IsReady p) (places e scope)
    ready (constant c) scope at fits rows small told = All-nil (IsReady p)
    ready (index row) scope at fits rows small told = All-nil (IsReady p)
    ready (access x f) scope at fits rows small told =
        All-cons (IsReady p) (record { part = access_to x f; scope = scope }) []
        (access_ready p params_at scope at (omega arith) x f rows (slice_get p.variables x) refl (arity_of x f (slice_get p.variables x) refl fits.0 told.0)) (All-nil (IsReady p))
    ready (negation e) scope at fits rows small told = ready e scope at fits rows small told.1
    ready (binary op a b) scope at fits rows small told =
        All-append (IsReady p) (places a scope) (places b scope)
        (ready a scope at fits.0 rows.0 (omega arith) (each_left IsTold (parts a) (parts b) told.1))
        (ready b scope at fits.1 rows.1 (omega arith) (each_right IsTold (parts a) (parts b) told.1))
    ready (cases branches) scope at fits rows small told =
        All-cons (IsReady p) (record { part = case_over (branch_domains branches); scope = scope }) (places_below branches scope)
        (case_ready p params_at scope at (omega arith) (branch_domains branches) (domains_at branches scope.width rows))
        (ready_below branches scope at fits rows small told.1)
    ready (reduction op extra domain e) scope at fits rows small told =
        let columns = fits.0 in
        let inner : Scope = under_reduction scope domain in
        let P : ℕ → Type 0 = λ n. IsAtWidth (length p.variables) e n in
        let Q : ℕ → Type 0 = λ n. HasRowsAt e n in
        All-cons (IsReady p) (record { part = reduction_over extra domain; scope = scope }) (places e inner)
        (reduction_ready p params_at scope at (omega arith) extra domain (omega arith))
        (ready e inner (reduction_scope p params_at scope extra domain at rows.0) (subst P (sym columns) fits.2) (subst Q (sym columns) rows.1) (omega arith) told.1)

    ready_below : (branches : Choices) (scope : Scope) → IsScopeAt p params_at scope → AreAtWidth (length p.variables) branches scope.width → HaveRowsAt branches scope.width
        → scope.width + extra_below branches ≤ 64 → AllByRecursion IsTold (parts_below branches) → All (IsReady p) (places_below branches scope)
    ready_below none scope at fits rows small told = All-nil (IsReady p)
    ready_below (choice domain e rest) scope at fits rows small told =
        All-append (IsReady p) (places e (under_branch scope domain)) (places_below rest scope)
        (ready e (under_branch scope domain) (branch_scope p params_at scope domain at rows.0) fits.1 rows.1 (omega arith) (each_left IsTold (parts e) (parts_below rest) told))
        (ready_below rest scope at fits.2 rows.2 (omega arith) (each_right IsTold (parts e) (parts_below rest) told))

    domains_at : (branches : Choices) (width : ℕ) → HaveRowsAt branches width → AllByRecursion (IsDomainAt width) (branch_domains branches)
    domains_at none width rows = tt
    domains_at (choice domain e rest) width rows = (rows.0, domains_at rest width rows.2)

-- no more places than nodes
mutual
  pub fewer_places : (e : Term) (scope : Scope) → length (places e scope) ≤ nodes e
  fewer_places (constant c) scope = omega arith
  fewer_places (index row) scope = omega arith
  fewer_places (access x f) scope = omega arith
  fewer_places (negation e) scope = omega (arith, fewer_places e scope)
  fewer_places (binary op a b) scope = omega (arith, fewer_places a scope, fewer_places b scope, length-append (places a scope) (places b scope))
  fewer_places (cases branches) scope = omega (arith, fewer_below branches scope)
  fewer_places (reduction op extra domain e) scope = omega (arith, fewer_places e (under_reduction scope domain))

  fewer_below : (branches : Choices) (scope : Scope) → length (places_below branches scope) ≤ nodes_below branches
  fewer_below none scope = omega arith
  fewer_below (choice domain e rest) scope =
      omega (arith, fewer_places e (under_branch scope domain), fewer_below rest scope, length-append (places e (under_branch scope domain)) (places_below rest scope))
