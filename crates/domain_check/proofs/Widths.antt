-- The rows of the checks have the width of their columns.
use Rattle.std.proofs.Common.{◌≡◌, ℕ, zero, suc, ◌+◌, ◌-◌, ◌*◌, ◌<◌, ◌≤◌, ℤ, pos, negsuc, List, [], ◌∷◌, ◌++◌, length, map, replicate, All, refl, sym, ap, subst, ◌∙◌, arith, length-append, length-set}
use lib.IntN.{neg_ℤ}
use Rattle.std.specs.List.{flat_map, range_with_len, AllByRecursion}
use Rattle.std.proofs.lemmas.List.{length-map, length-replicate}
use Rattle.std.proofs.lemmas.List.FromFn.{length-map-range_with_len}
use Rattle.std.proofs.lemmas.List.Elements.{All-from_recursion, recursion_from_All}
use Rattle.az_lin.specs.Affine.{Affine, AffineMap, Polyhedron, Union, HasWidth}
use Rattle.az_lin.specs.Columns.{widened_conj, widened}
use Rattle.az_ast.specs.Rows.{IsRowAt, IsConjAt, IsDomainAt}
use Rattle.az_poly.specs.Operations.{conj_before, domain_before}
use Rattle.expr_places.specs.Directions.{slope, moves}
use Rattle.expr_places.specs.declared.scope.Scope.{Scope}
use Rattle.formula_refute.specs.Claims.{Claim, atom, all_of, any_of, Claims, none, more, claims, EachRow, EachRowBelow, IsOver}
use Rattle.formula_refute.specs.Domains.{atoms, conj_claim, conj_claims, claim_of_disjuncts, domain_claim}
use Rattle.formula_refute.specs.Opposite.{opposite, opposites}
use Rattle.row_columns.proofs.Made.{widths_widened}
use Rattle.domain_check.specs.Checks.{overlaps, outside_of, gap}
use Rattle.domain_check.specs.Context.{over, context, in_force}
use Rattle.domain_check.specs.Directions.{rows_of, direction, both_ways, along_each, directions_in}
use Rattle.domain_check.proofs.DomainClaims.{EachHas, atoms_have, disjuncts_have}
use Rattle.domain_check.proofs.Falsity.{each_weaker}

pub each_join : {A : Type 0} (P : A → Type 0) (xs ys : List A) → AllByRecursion P xs → AllByRecursion P ys → AllByRecursion P (xs ++ ys)
each_join P [] ys p q = q
each_join P (x ∷ xs) ys p q = (p.0, each_join P xs ys p.1 q)

module _ (width : ℕ) where
  abbrev pub HaveWidth : List Polyhedron → Type 0
  HaveWidth conjs = EachHas (HasWidth width) conjs

  mutual
    opposite_over : (c : Claim) → IsOver width c → IsOver width (opposite c)
    opposite_over (atom row) h = length-map row.coefs neg_ℤ ∙ h
    opposite_over (all_of cs) h = opposites_over cs h
    opposite_over (any_of cs) h = opposites_over cs h

    opposites_over : (cs : Claims) → EachRowBelow (HasWidth width) cs → EachRowBelow (HasWidth width) (opposites cs)
    opposites_over none h = tt
    opposites_over (more c cs) h = (opposite_over c h.0, opposites_over cs h.1)

  claims_over : (cs : List Claim) → AllByRecursion (IsOver width) cs → EachRowBelow (HasWidth width) (claims cs)
  claims_over [] h = tt
  claims_over (c ∷ cs) h = (h.0, claims_over cs h.1)

  pub domain_rows : (domain : Union) → IsDomainAt width domain → HaveWidth domain.disjuncts
  domain_rows domain at =
      each_weaker (IsConjAt width) (λ (conj : Polyhedron). AllByRecursion (HasWidth width) conj.rows)
      (λ conj h. each_weaker (IsRowAt width) (HasWidth width) (λ row r. r.0) conj.rows (recursion_from_All (IsRowAt width) conj.rows h.rows))
      domain.disjuncts (recursion_from_All (IsConjAt width) domain.disjuncts at.disjuncts)

  pub domain_over : (domain : Union) → IsDomainAt width domain → IsOver width (domain_claim domain)
  domain_over domain at = disjuncts_have (HasWidth width) domain.disjuncts (domain_rows domain at)

  pub outside_over : (domain : Union) → IsDomainAt width domain → IsOver width (outside_of domain)
  outside_over domain at = opposite_over (domain_claim domain) (domain_over domain at)

  -- a domain in fewer columns
  pub record IsWithin (domain : Union) : Type 0 where
    pub inside : domain.width ≤ width
    pub at : IsDomainAt domain.width domain

  wider : (own : ℕ) (conjs : List Polyhedron) → own ≤ width → AllByRecursion (λ (conj : Polyhedron). AllByRecursion (HasWidth own) conj.rows) conjs
      → HaveWidth (map (λ conj. widened_conj own (width - own) conj) conjs)
  wider own [] inside h = tt
  wider own (conj ∷ conjs) inside h =
      let made : List Affine = map (λ row. widened own (width - own) row) conj.rows in
      let sum : own + (width - own) ≡ width = omega arith in
      let P : ℕ → Type 0 = λ n. All (HasWidth n) made in
      (recursion_from_All (HasWidth width) made (subst P sum (widths_widened own (width - own) own conj.rows (omega arith) (All-from_recursion (HasWidth own) conj.rows h.0))), wider own conjs inside h.1)

  over_over : (domain : Union) → IsWithin domain → IsOver width (domain_claim (over width domain))
  over_over domain within = disjuncts_have (HasWidth width) (over width domain).disjuncts (wider domain.width domain.disjuncts within.inside (same_rows within.at))
    where
      same_rows : IsDomainAt domain.width domain → AllByRecursion (λ (conj : Polyhedron). AllByRecursion (HasWidth domain.width) conj.rows) domain.disjuncts
      same_rows at =
          each_weaker (IsConjAt domain.width) (λ (conj : Polyhedron). AllByRecursion (HasWidth domain.width) conj.rows)
          (λ conj h. each_weaker (IsRowAt domain.width) (HasWidth domain.width) (λ row r. r.0) conj.rows (recursion_from_All (IsRowAt domain.width) conj.rows h.rows))
          domain.disjuncts (recursion_from_All (IsConjAt domain.width) domain.disjuncts at.disjuncts)

  context_over : (domains : List Union) → AllByRecursion IsWithin domains → AllByRecursion (IsOver width) (map (λ domain. domain_claim (over width domain)) domains)
  context_over [] h = tt
  context_over (domain ∷ domains) h = (over_over domain h.0, context_over domains h.1)

  -- what is composed has the columns of the map
  before_rows : (f : AffineMap) (conjs : List Polyhedron) → f.width ≡ width → HaveWidth (map (λ conj. conj_before f conj) conjs)
  before_rows f [] at = tt
  before_rows f (conj ∷ conjs) at = (composed_rows conj.rows, before_rows f conjs at)
    where
      composed_rows : (rows : List Affine) → AllByRecursion (HasWidth width) (conj_before f (record { width = f.width; rows = rows })).rows
      composed_rows [] = tt
      composed_rows (row ∷ rows) = (length-map-range_with_len _ 0 f.width ∙ at, composed_rows rows)

  pub before_over : (f : AffineMap) (domain : Union) → f.width ≡ width → IsOver width (outside_of (domain_before f domain))
  before_over f domain at = opposite_over (domain_claim (domain_before f domain)) (disjuncts_have (HasWidth width) (domain_before f domain).disjuncts (before_rows f domain.disjuncts at))

module _ (scope : Scope) (within : AllByRecursion (IsWithin scope.width) scope.domains) where
  pub in_force_over : (cs : List Claim) → AllByRecursion (IsOver scope.width) cs → IsOver scope.width (in_force scope cs)
  in_force_over cs h =
      claims_over scope.width (context scope ++ cs) (each_join (IsOver scope.width) (context scope) cs (context_over scope.width scope.domains within) h)

  pairs_over : (first : Union) (rest : List Union) → IsDomainAt scope.width first → AllByRecursion (IsDomainAt scope.width) rest
      → AllByRecursion (IsOver scope.width) (map (λ other. in_force scope (domain_claim first ∷ domain_claim other ∷ [])) rest)
  pairs_over first [] at h = tt
  pairs_over first (other ∷ rest) at h =
      (in_force_over (domain_claim first ∷ domain_claim other ∷ []) (domain_over scope.width first at, (domain_over scope.width other h.0, tt)), pairs_over first rest at h.1)

  pub overlaps_over : (domains : List Union) → AllByRecursion (IsDomainAt scope.width) domains → AllByRecursion (IsOver scope.width) (overlaps scope domains)
  overlaps_over [] h = tt
  overlaps_over (first ∷ rest) h =
      each_join (IsOver scope.width) (map (λ other. in_force scope (domain_claim first ∷ domain_claim other ∷ [])) rest) (overlaps scope rest)
      (pairs_over first rest h.0 h.1) (overlaps_over rest h.1)

  outsides_over : (domains : List Union) → AllByRecursion (IsDomainAt scope.width) domains → AllByRecursion (IsOver scope.width) (map outside_of domains)
  outsides_over [] h = tt
  outsides_over (domain ∷ domains) h = (outside_over scope.width domain h.0, outsides_over domains h.1)

  pub gap_over : (domains : List Union) → AllByRecursion (IsDomainAt scope.width) domains → IsOver scope.width (gap scope domains)
  gap_over domains h = in_force_over (map outside_of domains) (outsides_over domains h)

-- the systems over directions
module _ (outer extra : ℕ) where
  slopes_wide : (rows : List Affine) → AllByRecursion (HasWidth extra) (map (slope outer extra) rows)
  slopes_wide [] = tt
  slopes_wide (row ∷ rows) = (length-map-range_with_len _ 0 extra, slopes_wide rows)

  direction_over : (rows : List Affine) (j : ℕ) (sign : ℤ) → IsOver extra (direction extra (map (slope outer extra) rows) j sign)
  direction_over rows j sign =
      let slopes = map (slope outer extra) rows in
      let last : HasWidth extra (moves extra j sign) = simp (length-set, length-replicate) in
      atoms_have (HasWidth extra) (slopes ++ moves extra j sign ∷ []) (each_join (HasWidth extra) slopes (moves extra j sign ∷ []) (slopes_wide rows) (last, tt))

  ways_over : (rows : List Affine) (from count : ℕ) → AllByRecursion (IsOver extra) (flat_map (both_ways extra (map (slope outer extra) rows)) (range_with_len from count))
  ways_over rows from zero = tt
  ways_over rows from (suc count) = (direction_over rows from (pos 1), (direction_over rows from (negsuc 0), ways_over rows (from + 1) count))

  each_over : (around : List Affine) (conjs : List Polyhedron)
      → AllByRecursion (IsOver extra) (flat_map (λ (conj : Polyhedron). along_each extra (map (slope outer extra) (around ++ conj.rows))) conjs)
  each_over around [] = tt
  each_over around (conj ∷ conjs) =
      each_join (IsOver extra) (along_each extra (map (slope outer extra) (around ++ conj.rows)))
      (flat_map (λ (conj : Polyhedron). along_each extra (map (slope outer extra) (around ++ conj.rows))) conjs) (ways_over (around ++ conj.rows) 0 extra) (each_over around conjs)

  pub directions_over : (around : List Union) (domain : Union) → AllByRecursion (IsOver extra) (directions_in around domain outer extra)
  directions_over around domain = each_over (flat_map rows_of around) domain.disjuncts
