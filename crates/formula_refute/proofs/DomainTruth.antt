-- The formula of a domain is true where the domain holds the point.
use Rattle.std.proofs.Common.{◌≡◌, inl, inr, ℕ, zero, suc, ◌<◌, ℤ, List, [], ◌∷◌, length, arith, ◌↔◌, get_or, refl, sym, subst, ap, ◌∙◌, map}
use Rattle.std.specs.Prelude.{Any}
use Rattle.std.specs.List.{AllByRecursion}
use Rattle.std.proofs.lemmas.List.Elements.{All-from_recursion, recursion_from_All}
use Rattle.az_lin.specs.Affine.{Affine, Polyhedron, Union, IsAtLeastZero, Holds, HoldsSome}
use Rattle.formula_refute.specs.declared.formula.Formula.{Formula}
use Rattle.formula_refute.specs.declared.formula.Formula.TheVariants as form
use Rattle.formula_refute.specs.Claims.{Claim, Claims, all_of, any_of, claims, claim, IsTrueAt, EachTrueAt, SomeTrueAt}
use Rattle.formula_refute.specs.Domains.{atoms, conj_claim, conj_claims, claim_of_disjuncts, domain_claim}
use Rattle.formula_refute.proofs.FormulaData.{claim-Atom, claim-All, claim-Any}

atoms_made : (rows : List Affine) → claims (map claim (map form.Atom rows)) ≡ atoms rows
atoms_made [] = refl
atoms_made (row ∷ rows) = ap (λ c. Claims.more c (claims (map claim (map form.Atom rows)))) (claim-Atom row) ∙ ap (Claims.more (Claim.atom row)) (atoms_made rows)

pub conj_made : (members : List Formula) (conj : Polyhedron) → members ≡ map form.Atom conj.rows → claim (form.All members) ≡ conj_claim conj
conj_made members conj is = claim-All members ∙ ap (λ xs. all_of (claims (map claim xs))) is ∙ ap all_of (atoms_made conj.rows)

conjs_made : (conjs : List Polyhedron) → claims (map conj_claim conjs) ≡ conj_claims conjs
conjs_made [] = refl
conjs_made (conj ∷ conjs) = ap (Claims.more (conj_claim conj)) (conjs_made conjs)

several : (conjs : List Polyhedron) → (length conjs ≡ 1 → ⊥) → any_of (conj_claims conjs) ≡ claim_of_disjuncts conjs
several [] not_one = refl
several (conj ∷ []) not_one = absurd (not_one refl)
several (conj ∷ other ∷ conjs) not_one = refl

pub union_made : (members : List Formula) (conjs : List Polyhedron) → map claim members ≡ map conj_claim conjs → (length conjs ≡ 1 → ⊥)
    → claim (form.Any members) ≡ claim_of_disjuncts conjs
union_made members conjs is not_one = claim-Any members ∙ ap (λ cs. any_of (claims cs)) is ∙ ap any_of (conjs_made conjs) ∙ several conjs not_one

module _ (z : List ℤ) where
  each_to : (rows : List Affine) → EachTrueAt z (atoms rows) → AllByRecursion (IsAtLeastZero z) rows
  each_to [] h = tt
  each_to (row ∷ rows) h = (h.0, each_to rows h.1)

  each_from : (rows : List Affine) → AllByRecursion (IsAtLeastZero z) rows → EachTrueAt z (atoms rows)
  each_from [] h = tt
  each_from (row ∷ rows) h = (h.0, each_from rows h.1)

  conj_to : (conj : Polyhedron) → IsTrueAt z (conj_claim conj) → Holds conj z
  conj_to conj h = All-from_recursion (IsAtLeastZero z) conj.rows (each_to conj.rows h)

  conj_from : (conj : Polyhedron) → Holds conj z → IsTrueAt z (conj_claim conj)
  conj_from conj h = each_from conj.rows (recursion_from_All (IsAtLeastZero z) conj.rows h)

  some_to : (conjs : List Polyhedron) → SomeTrueAt z (conj_claims conjs) → Any (λ conj. Holds conj z) conjs
  some_to [] h = absurd h
  some_to (conj ∷ conjs) h = elim h as (λ _. Any (λ it. Holds it z) (conj ∷ conjs)) [
    | inl here ↦ (0, conj, omega arith, refl, conj_to conj here)
    | inr there ↦ (let found = some_to conjs there in (suc found.0, found.1, omega arith, found.3, found.4))
  ]

  some_from : (conjs : List Polyhedron) (k : ℕ) (conj : Polyhedron) → k < length conjs → get_or conjs k conj ≡ conj → Holds conj z → SomeTrueAt z (conj_claims conjs)
  some_from [] k conj below is holds = absurd (omega arith)
  some_from (first ∷ conjs) zero conj below is holds = let P : Polyhedron → Type 0 = λ it. Holds it z in inl (conj_from first (subst P (sym is) holds))
  some_from (first ∷ conjs) (suc k) conj below is holds = inr (some_from conjs k conj (omega arith) is holds)

  pub disjuncts_true : (conjs : List Polyhedron) → IsTrueAt z (claim_of_disjuncts conjs) ↔ Any (λ conj. Holds conj z) conjs
  disjuncts_true [] = (λ h. absurd h, λ found. some_from [] found.0 found.1 found.2 found.3 found.4)
  disjuncts_true (conj ∷ []) = (
    λ h. (0, conj, omega arith, refl, conj_to conj h),
    λ found. elim (some_from (conj ∷ []) found.0 found.1 found.2 found.3 found.4) as (λ _. IsTrueAt z (conj_claim conj)) [ inl here ↦ here | inr none ↦ absurd none ],
  )
  disjuncts_true (conj ∷ other ∷ conjs) = (
    λ h. some_to (conj ∷ other ∷ conjs) h,
    λ found. some_from (conj ∷ other ∷ conjs) found.0 found.1 found.2 found.3 found.4,
  )

  pub domain_true : (domain : Union) (formula : Formula) → claim formula ≡ domain_claim domain → IsTrueAt z (claim formula) ↔ HoldsSome domain z
  domain_true domain formula is = let P : Claim → Type 0 = λ c. IsTrueAt z c ↔ HoldsSome domain z in subst P (sym is) (disjuncts_true domain.disjuncts)
