-- The rows of the formulas have the width of their columns.
use Rattle.std.proofs.Common.{◌≡◌, ℕ, zero, suc, ◌+◌, ◌-◌, ◌≤◌, ℤ, pos, List, [], ◌∷◌, ◌++◌, length, map, max, take, drop, replicate, Bool, true, false, All, refl, sym, ap, subst, ◌∙◌, arith, length-append, length-drop}
use Rattle.std.specs.Prelude.{◌==◌, if◌then◌else◌}
use Rattle.std.specs.List.{AllByRecursion, flat_map}
use Rattle.std.proofs.lemmas.List.{length-take, length-replicate}
use Rattle.std.proofs.lemmas.List.Elements.{All-nil, All-cons, All-head, All-tail, All-append, All-drop, recursion_from_All}
use Rattle.az_lin.specs.Affine.{Affine, Polyhedron, Union, HasWidth}
use Rattle.az_lin.specs.Columns.{with_zeros, widened, widened_conj, widened_domain}
use Rattle.az_ast.specs.Rows.{IsRowAt, IsConjAt, IsDomainAt}
use Rattle.az_ast.specs.Shapes.{IsProgram}
use Rattle.az_ast.specs.System.{System}
use Rattle.az_ast.specs.declared.program.Equation.{Equation}
use Rattle.domain_check.specs.Context.{over, context}
use Rattle.domain_check.proofs.DomainClaims.{domain_has}
use Rattle.domain_check.proofs.Widths.{each_join}
use Rattle.expr_places.specs.Reads.{ReadPlace, reads_of}
use Rattle.formula_refute.specs.Claims.{Claim, all_of, any_of, claims, none, IsOver}
use Rattle.formula_refute.specs.Domains.{domain_claim}
use Rattle.life_sets.specs.Beside.{writer_domain, stores_into, comes_before}
use Rattle.life_sets.specs.Cells.{meets, same_cell, cell_map, shared, other}
use Rattle.life_sets.specs.Lifetimes.{with_writer, output_scope, stores_over, before_reader, life_claim, keep_claim, life_of, keep_of, lives_from, lifetimes}
use Rattle.life_sets.specs.Ready.{IsOwn, IsReadyEquation}
use Rattle.order_sets.specs.NotBefore.{both_ways, apart, each_pair}
use Rattle.order_sets.specs.Orders.{StatedClaim}
use Rattle.order_sets.specs.Reading.{IsReadOf}
use Rattle.order_sets.specs.Stated.{IsRefutable}
use Rattle.order_sets.specs.Visits.{read_visit, own_visit, writer_visit}
use Rattle.order_sets.specs.declared.visit.Visit.{Visit}
use Rattle.order_sets.proofs.Visits.{read_wide, own_wide, writer_wide}
use Rattle.order_sets.proofs.Widths.{EachFit, Fit, AreOver, below_from, apart_over, both_over, apart_pair_over, each_over, each_turned, all_fit, composed_wide, visits_over}
use Rattle.target_map.specs.Settings.{TargetMapping, IsComplete}
use Rattle.target_map.specs.Storage.{writers_of}
use Rattle.target_map.specs.Times.{storage_of, domain_of, indices_of, outputs_of}
use Rattle.life_sets.proofs.Own.{own_rows, all_ready, outputs_own, writers_own}

-- columns that are put in count, wherever they are put
zeros-length : (place count : ℕ) (cs : List ℤ) → length (with_zeros place count cs) ≡ length cs + count
zeros-length place count cs =
    omega (
      arith,
      length-append (take place cs) (replicate count (pos 0) ++ drop place cs),
      length-append (replicate count (pos 0)) (drop place cs),
      length-take place cs,
      length-replicate count (pos 0),
      length-drop place cs,
    )

-- domains
abbrev EachWide : ℕ → List Polyhedron → Type 0
EachWide width conjs = All (λ (conj : Polyhedron). All (HasWidth width) conj.rows) conjs

module _ (from to place count place' count' : ℕ) (more : (n : ℕ) → n + count ≡ from → n + count' ≡ to) where
  wider_rows : (rows : List Affine) → All (HasWidth from) (map (λ row. widened place count row) rows) → All (HasWidth to) (map (λ row. widened place' count' row) rows)
  wider_rows [] wide = All-nil (HasWidth to)
  wider_rows (row ∷ rows) wide =
      let here = All-head (HasWidth from) (widened place count row) (map (λ row. widened place count row) rows) wide in
      All-cons (HasWidth to) (widened place' count' row) (map (λ row. widened place' count' row) rows)
      (zeros-length place' count' row.coefs ∙ more (length row.coefs) (sym (zeros-length place count row.coefs) ∙ here))
      (wider_rows rows (All-tail (HasWidth from) (widened place count row) (map (λ row. widened place count row) rows) wide))

  wider_conjs : (conjs : List Polyhedron) → EachWide from (map (λ conj. widened_conj place count conj) conjs) → EachWide to (map (λ conj. widened_conj place' count' conj) conjs)
  wider_conjs [] wide = All-nil (λ (conj : Polyhedron). All (HasWidth to) conj.rows)
  wider_conjs (conj ∷ conjs) wide =
      let P : Polyhedron → Type 0 = λ conj. All (HasWidth from) conj.rows in
      let Q : Polyhedron → Type 0 = λ conj. All (HasWidth to) conj.rows in
      All-cons Q (widened_conj place' count' conj) (map (λ conj. widened_conj place' count' conj) conjs)
      (wider_rows conj.rows (All-head P (widened_conj place count conj) (map (λ conj. widened_conj place count conj) conjs) wide))
      (wider_conjs conjs (All-tail P (widened_conj place count conj) (map (λ conj. widened_conj place count conj) conjs) wide))

  wider_domain : (domain : Union) → IsOver from (domain_claim (widened_domain place count domain)) → IsOver to (domain_claim (widened_domain place' count' domain))
  wider_domain domain wide =
      (domain_has (HasWidth to) (widened_domain place' count' domain)).1 (wider_conjs domain.disjuncts ((domain_has (HasWidth from) (widened_domain place count domain)).0 wide))

-- a domain of its own rows, with columns put in
module _ (own place count : ℕ) where
  put_rows : (rows : List Affine) → All (IsRowAt own) rows → All (HasWidth (own + count)) (map (λ row. widened place count row) rows)
  put_rows [] at = All-nil (HasWidth (own + count))
  put_rows (row ∷ rows) at =
      All-cons (HasWidth (own + count)) (widened place count row) (map (λ row. widened place count row) rows)
      (zeros-length place count row.coefs ∙ ap (λ n. n + count) (All-head (IsRowAt own) row rows at).0) (put_rows rows (All-tail (IsRowAt own) row rows at))

  put_conjs : (conjs : List Polyhedron) → All (IsConjAt own) conjs → EachWide (own + count) (map (λ conj. widened_conj place count conj) conjs)
  put_conjs [] at = All-nil (λ (conj : Polyhedron). All (HasWidth (own + count)) conj.rows)
  put_conjs (conj ∷ conjs) at =
      let Q : Polyhedron → Type 0 = λ conj. All (HasWidth (own + count)) conj.rows in
      All-cons Q (widened_conj place count conj) (map (λ conj. widened_conj place count conj) conjs)
      (put_rows conj.rows (All-head (IsConjAt own) conj conjs at).rows) (put_conjs conjs (All-tail (IsConjAt own) conj conjs at))

  put_over : (domain : Union) → IsDomainAt own domain → IsOver (own + count) (domain_claim (widened_domain place count domain))
  put_over domain at = (domain_has (HasWidth (own + count)) (widened_domain place count domain)).1 (put_conjs domain.disjuncts at.disjuncts)

-- what is in force at a place, with the writer's columns behind it
context_wider : (width more : ℕ) (domains : List Union) → AllByRecursion (λ (domain : Union). domain.width ≤ width) domains
    → AllByRecursion (IsOver width) (map (λ domain. domain_claim (over width domain)) domains)
    → AllByRecursion (IsOver (width + more)) (map (λ domain. domain_claim (over (width + more) domain)) domains)
context_wider width more [] inside wide = tt
context_wider width more (domain ∷ domains) inside wide =
    let own = domain.width in
    let here = inside.0 in (
      wider_domain width (width + more) own (width - own) own ((width + more) - own) (λ n is. omega (arith, here, is)) domain wide.0,
      context_wider width more domains inside.1 wide.1,
    )

module _ (p : System) (m : TargetMapping) (width y : ℕ) where
  abbrev W : ℕ
  W = width + indices_of p y

  abbrev writer : Visit
  writer = writer_visit p y width

  domain_wide : IsDomainAt (domain_of p y).width (domain_of p y) → length p.params ≤ width → length p.params ≤ (domain_of p y).width → IsOver W (writer_domain p width y)
  domain_wide at inside enough =
      let own = (domain_of p y).width in
      let same : own + (width - length p.params) ≡ W = omega (arith, inside, enough) in
      subst (λ n. IsOver n (writer_domain p width y)) same (put_over own (length p.params) (width - length p.params) (domain_of p y) at)

  -- beside a visit over the columns of the place
  module _ (visit : Visit) (columns : visit.at.width ≡ width) (wide : All (HasWidth visit.at.width) visit.at.rows) where
    first : max writer.at.width visit.at.width ≡ W
    first = omega (arith, columns)

    second : max visit.at.width writer.at.width ≡ W
    second = omega (arith, columns)

    meets_over : (factor : ℕ) (u v : Affine) → Fit W u v → Fit W v u → IsOver W (meets factor u v)
    meets_over zero u v fit back = below_from (HasWidth W) (both_ways u v) (both_over W u v fit)
    meets_over (suc less) u v fit back = (
      below_from (HasWidth W) (both_ways u v) (both_over W u v fit),
      (apart_over W (pos (suc less)) u v fit, (apart_over W (pos (suc less)) v u back, tt)),
    )

    cells_over : (factors : List ℕ) (us vs : List Affine) → EachFit W us vs → EachFit W vs us → AreOver W (same_cell factors us vs)
    cells_over [] us vs fits back = tt
    cells_over (factor ∷ factors) [] vs fits back = tt
    cells_over (factor ∷ factors) (u ∷ us) [] fits back = tt
    cells_over (factor ∷ factors) (u ∷ us) (v ∷ vs) fits back = (meets_over factor u v fits.0 back.0, cells_over factors us vs fits.1 back.1)

    shared_over : IsOver W (shared m writer visit)
    shared_over =
        let us = (cell_map m writer).rows in
        let vs = (cell_map m visit).rows in
        let fits : EachFit W us vs =
        all_fit W writer.at.width visit.at.width first us vs (composed_wide (storage_of m writer.variable).map.rows writer.at) (composed_wide (storage_of m visit.variable).map.rows visit.at) in
        below_from (HasWidth W) (same_cell (storage_of m visit.variable).factors us vs) (cells_over (storage_of m visit.variable).factors us vs fits (each_turned W us vs fits))

    other_over : IsOver W (other p writer visit)
    other_over = by (writer.variable == visit.variable)
      where
        us : List Affine
        us = drop (length p.params) writer.at.rows

        vs : List Affine
        vs = drop (length p.params) visit.at.rows

        fits : EachFit W (drop (length p.params) visit.at.rows) (drop (length p.params) writer.at.rows)
        fits =
            all_fit W visit.at.width writer.at.width second (drop (length p.params) visit.at.rows) (drop (length p.params) writer.at.rows)
            (recursion_from_All (HasWidth visit.at.width) (drop (length p.params) visit.at.rows) (All-drop (HasWidth visit.at.width) (length p.params) visit.at.rows wide))
            (recursion_from_All (HasWidth writer.at.width) (drop (length p.params) writer.at.rows) (All-drop (HasWidth writer.at.width) (length p.params) writer.at.rows (writer_wide p [] y width)))

        by : (b : Bool) → IsOver W (if b then any_of (claims (each_pair apart (drop (length p.params) visit.at.rows) (drop (length p.params) writer.at.rows))) else all_of none)
        by true =
            below_from (HasWidth W) (each_pair apart (drop (length p.params) visit.at.rows) (drop (length p.params) writer.at.rows))
            (each_over W apart (apart_pair_over W) (drop (length p.params) visit.at.rows) (drop (length p.params) writer.at.rows) fits)
        by false = tt

    into_over : AreOver W (stores_into p m writer visit)
    into_over = (shared_over, (other_over, (visits_over m W writer visit first, tt)))

    before_over : AreOver W (comes_before p m writer visit)
    before_over = (other_over, (visits_over m W visit writer second, tt))

-- a domain over the columns of an output
over_own : (own : ℕ) (domain : Union) → IsDomainAt domain.width domain → domain.width ≤ own → IsOver own (domain_claim (over own domain))
over_own own domain at inside =
    let same : domain.width + (own - domain.width) ≡ own = omega (arith, inside) in
    subst (λ n. IsOver n (domain_claim (over own domain))) same (put_over domain.width domain.width (own - domain.width) domain at)

-- the formulas in order
module _ (p : System) (m : TargetMapping) (program : IsProgram p) where
  life_over : (x : ℕ) (read : ReadPlace) (y : ℕ) → IsReadOf p x read → IsOwn p y → IsOver (read.scope.width + indices_of p y) (life_claim p m x read y)
  life_over x read y of own =
      let width = read.scope.width in
      let total = width + indices_of p y in
      let scope = with_writer p read.scope y in
      let point : Visit = read_visit p read in
      let reader : Visit = own_visit p x width in
      let columns = of.at.columns in
      let params = of.at.params in
      let over_it : List Claim = stores_over p m width y point in
      let after : List Claim = before_reader p m width y reader in
      below_from (HasWidth total) (context scope ++ (over_it ++ after))
      (each_join (IsOver total) (context scope) (over_it ++ after) (context_wider width (indices_of p y) read.scope.domains of.inside of.context)
      (each_join (IsOver total) over_it after
      (domain_wide p m width y (own_rows p program y own.written) params own.params, into_over p m width y point columns (read_wide p [] read of.at.widths))
      (before_over p m width y reader refl (own_wide p [] x width))))

  keep_over : (x y : ℕ) → IsOwn p x → IsOwn p y → IsOver ((domain_of p x).width + indices_of p y) (keep_claim p m x y)
  keep_over x y here own =
      let width = (domain_of p x).width in
      let total = width + indices_of p y in
      let scope = with_writer p (output_scope p x) y in
      let point : Visit = own_visit p x width in
      let over_it : List Claim = stores_over p m width y point in
      let pdom = program.rows.parameters in
      let columns = pdom.columns in
      let inside = here.params in
      let fits : p.pdom.width ≤ width = omega (arith, columns, inside) in
      let at : IsDomainAt p.pdom.width p.pdom = subst (λ n. IsDomainAt n p.pdom) (sym columns) pdom in
      let all : AllByRecursion (IsOver width) (context (output_scope p x)) = (over_own width p.pdom at fits, (over_own width (domain_of p x) (own_rows p program x here.written) (omega arith), tt)) in
      below_from (HasWidth total) (context scope ++ over_it)
      (each_join (IsOver total) (context scope) over_it (context_wider width (indices_of p y) (p.pdom ∷ domain_of p x ∷ []) (fits, (omega arith, tt)) all)
      (domain_wide p m width y (own_rows p program y own.written) inside own.params, into_over p m width y point refl (own_wide p [] x width)))

  lives_refutable : (x number : ℕ) (read : ReadPlace) (ys : List ℕ) → IsReadOf p x read → All (IsOwn p) ys → All IsRefutable (map (life_of p m x number read) ys)
  lives_refutable x number read [] of own = All-nil IsRefutable
  lives_refutable x number read (y ∷ ys) of own =
      let here = All-head (IsOwn p) y ys own in
      let narrow = of.narrow in
      let few = here.narrow in
      All-cons IsRefutable (life_of p m x number read y) (map (life_of p m x number read) ys) (omega (arith, narrow, few), life_over x read y of here)
      (lives_refutable x number read ys of (All-tail (IsOwn p) y ys own))

  keeps_refutable : (x : ℕ) (ys : List ℕ) → IsOwn p x → All (IsOwn p) ys → All IsRefutable (map (keep_of p m x) ys)
  keeps_refutable x [] own all = All-nil IsRefutable
  keeps_refutable x (y ∷ ys) own all =
      let here = All-head (IsOwn p) y ys all in
      let narrow = own.narrow in
      let few = here.narrow in
      All-cons IsRefutable (keep_of p m x y) (map (keep_of p m x) ys) (omega (arith, narrow, few), keep_over x y own here) (keeps_refutable x ys own (All-tail (IsOwn p) y ys all))

  abbrev Writers : ReadPlace → Type 0
  Writers read = All (IsOwn p) (writers_of p m read.variable)

  reads_refutable : (x number : ℕ) (reads : List ReadPlace) → All (IsReadOf p x) reads → All Writers reads → All IsRefutable (lives_from p m x number reads)
  reads_refutable x number [] of own = All-nil IsRefutable
  reads_refutable x number (read ∷ reads) of own =
      All-append IsRefutable (map (life_of p m x number read) (writers_of p m read.variable)) (lives_from p m x (suc number) reads)
      (lives_refutable x number read (writers_of p m read.variable) (All-head (IsReadOf p x) read reads of) (All-head Writers read reads own))
      (reads_refutable x (suc number) reads (All-tail (IsReadOf p x) read reads of) (All-tail Writers read reads own))

  abbrev lives : Equation → List StatedClaim
  lives e = lives_from p m e.variable 0 (reads_of p e)

  abbrev keeps : ℕ → List StatedClaim
  keeps x = map (keep_of p m x) (writers_of p m x)

  equations_refutable : (equations : List Equation) → All (IsReadyEquation p m) equations → All IsRefutable (flat_map lives equations)
  equations_refutable [] ready = All-nil IsRefutable
  equations_refutable (equation ∷ equations) ready =
      let here = All-head (IsReadyEquation p m) equation equations ready in
      All-append IsRefutable (lives equation) (flat_map lives equations) (reads_refutable equation.variable 0 (reads_of p equation) here.reads.each here.writers)
      (equations_refutable equations (All-tail (IsReadyEquation p m) equation equations ready))

  module _ (complete : IsComplete p m) where
    outputs_refutable : (xs : List ℕ) → All (IsOwn p) xs → All IsRefutable (flat_map keeps xs)
    outputs_refutable [] own = All-nil IsRefutable
    outputs_refutable (x ∷ xs) own =
        All-append IsRefutable (keeps x) (flat_map keeps xs) (keeps_refutable x (writers_of p m x) (All-head (IsOwn p) x xs own) (writers_own p program m complete x))
        (outputs_refutable xs (All-tail (IsOwn p) x xs own))

    pub lifetimes_refutable : All IsRefutable (lifetimes p m)
    lifetimes_refutable =
        All-append IsRefutable (flat_map lives p.equations) (flat_map keeps (outputs_of p)) (equations_refutable p.equations (all_ready p program m complete))
        (outputs_refutable (outputs_of p) (outputs_own p program))
