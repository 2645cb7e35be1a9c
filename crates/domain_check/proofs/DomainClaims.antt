-- What each row of a domain has, each row of its formula has, and back.
use Rattle.std.proofs.Common.{List, [], ◌∷◌, All, ◌↔◌}
use Rattle.std.specs.List.{AllByRecursion}
use Rattle.std.proofs.lemmas.List.Elements.{All-nil, All-cons, All-head, All-tail, All-from_recursion, recursion_from_All}
use Rattle.az_lin.specs.Affine.{Affine, Polyhedron, Union}
use Rattle.formula_refute.specs.Claims.{Claim, EachRow, EachRowBelow}
use Rattle.formula_refute.specs.Domains.{atoms, conj_claims, claim_of_disjuncts}

module _ (P : Affine → Type 0) where
  pub atoms_have : (rows : List Affine) → AllByRecursion P rows → EachRowBelow P (atoms rows)
  atoms_have [] h = tt
  atoms_have (row ∷ rows) h = (h.0, atoms_have rows h.1)

  have_atoms : (rows : List Affine) → EachRowBelow P (atoms rows) → AllByRecursion P rows
  have_atoms [] h = tt
  have_atoms (row ∷ rows) h = (h.0, have_atoms rows h.1)

  abbrev pub EachHas : List Polyhedron → Type 0
  EachHas conjs = AllByRecursion (λ (conj : Polyhedron). AllByRecursion P conj.rows) conjs

  conjs_have : (conjs : List Polyhedron) → EachHas conjs → EachRowBelow P (conj_claims conjs)
  conjs_have [] h = tt
  conjs_have (conj ∷ conjs) h = (atoms_have conj.rows h.0, conjs_have conjs h.1)

  have_conjs : (conjs : List Polyhedron) → EachRowBelow P (conj_claims conjs) → EachHas conjs
  have_conjs [] h = tt
  have_conjs (conj ∷ conjs) h = (have_atoms conj.rows h.0, have_conjs conjs h.1)

  pub disjuncts_have : (conjs : List Polyhedron) → EachHas conjs → EachRow P (claim_of_disjuncts conjs)
  disjuncts_have [] h = tt
  disjuncts_have (conj ∷ []) h = atoms_have conj.rows h.0
  disjuncts_have (conj ∷ other ∷ conjs) h = conjs_have (conj ∷ other ∷ conjs) h

  have_disjuncts : (conjs : List Polyhedron) → EachRow P (claim_of_disjuncts conjs) → EachHas conjs
  have_disjuncts [] h = tt
  have_disjuncts (conj ∷ []) h = (have_atoms conj.rows h, tt)
  have_disjuncts (conj ∷ other ∷ conjs) h = have_conjs (conj ∷ other ∷ conjs) h

  by_parts : (conjs : List Polyhedron) → EachHas conjs → All (λ (conj : Polyhedron). All P conj.rows) conjs
  by_parts [] h = All-nil (λ (conj : Polyhedron). All P conj.rows)
  by_parts (conj ∷ conjs) h = All-cons (λ (conj : Polyhedron). All P conj.rows) conj conjs (All-from_recursion P conj.rows h.0) (by_parts conjs h.1)

  of_parts : (conjs : List Polyhedron) → All (λ (conj : Polyhedron). All P conj.rows) conjs → EachHas conjs
  of_parts [] h = tt
  of_parts (conj ∷ conjs) h =
      (recursion_from_All P conj.rows (All-head (λ (conj : Polyhedron). All P conj.rows) conj conjs h), of_parts conjs (All-tail (λ (conj : Polyhedron). All P conj.rows) conj conjs h))

  pub domain_has : (domain : Union) → EachRow P (claim_of_disjuncts domain.disjuncts) ↔ All (λ (conj : Polyhedron). All P conj.rows) domain.disjuncts
  domain_has domain = (
    λ h. by_parts domain.disjuncts (have_disjuncts domain.disjuncts h),
    λ h. disjuncts_have domain.disjuncts (of_parts domain.disjuncts h),
  )
