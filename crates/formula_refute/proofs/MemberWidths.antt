-- A formula has rows of a width if its members do.
use Rattle.std.proofs.Common.{◌≡◌, ◌∙◌, Result, Ok, Err, IfOk, List, [], ◌∷◌, ℕ, sym, subst}
use Rattle.std.specs.Prelude.{All}
use Rattle.std.specs.List.{AllByRecursion}
use Rattle.std.proofs.lemmas.List.Elements.{recursion_from_All}
use Rattle.az_lin.specs.Affine.{Affine, HasWidth}
use Rattle.formula_refute.specs.declared.formula.Formula.{Formula}
use Rattle.formula_refute.specs.declared.formula.Formula.TheVariants as form
use Rattle.std.proofs.lemmas.List.{length-map}
use Rattle.std.specs.Prelude.{neg_ℤ}
use Rattle.az_lin.specs.Affine.{Polyhedron}
use Rattle.formula_refute.specs.Answers.{Negates}
use Rattle.formula_refute.specs.Domains.{atoms, conj_claim}
use Rattle.formula_refute.specs.Opposite.{opposite, opposites}
use Rattle.formula_refute.specs.declared.fault.RefuteFault.{RefuteFault}
use Rattle.formula_refute.specs.Claims.{Claims, atom, all_of, any_of, none, more, Claim, claim, EachRow, EachRowBelow, IsOver}
use Rattle.formula_refute.proofs.FormulaData.{below, claim-Atom, claim-All, claim-Any}

module _ (P : Affine → Type 0) where
  rows_below : (members : List Formula) → AllByRecursion (λ f. EachRow P (claim f)) members → EachRowBelow P (below members)
  rows_below [] h = tt
  rows_below (f ∷ fs) h = (h.0, rows_below fs h.1)

  pub rows_of_atom : (row : Affine) → P row → EachRow P (claim (form.Atom row))
  rows_of_atom row h = let Q : Claim → Type 0 = λ c. EachRow P c in subst Q (sym (claim-Atom row)) h

  pub rows_of_all : (members : List Formula) → All (λ f. EachRow P (claim f)) members → EachRow P (claim (form.All members))
  rows_of_all members h =
      let Q : Claim → Type 0 = λ c. EachRow P c in
      subst Q (sym (claim-All members)) (rows_below members (recursion_from_All (λ f. EachRow P (claim f)) members h))

  pub rows_of_any : (members : List Formula) → All (λ f. EachRow P (claim f)) members → EachRow P (claim (form.Any members))
  rows_of_any members h =
      let Q : Claim → Type 0 = λ c. EachRow P c in
      subst Q (sym (claim-Any members)) (rows_below members (recursion_from_All (λ f. EachRow P (claim f)) members h))

-- a negation has rows of the same width
mutual
  pub opposite_width : (width : ℕ) (c : Claim) → IsOver width c → IsOver width (opposite c)
  opposite_width width (atom row) h = length-map row.coefs neg_ℤ ∙ h
  opposite_width width (all_of cs) h = opposites_width width cs h
  opposite_width width (any_of cs) h = opposites_width width cs h

  opposites_width : (width : ℕ) (cs : Claims) → EachRowBelow (HasWidth width) cs → EachRowBelow (HasWidth width) (opposites cs)
  opposites_width width none h = tt
  opposites_width width (more c cs) h = (opposite_width width c h.0, opposites_width width cs h.1)

pub negation_width : (c : Claim) (result : Result Formula RefuteFault) → Negates c result → (width : ℕ) → IsOver width c
    → IfOk result (λ formula. IsOver width (claim formula))
negation_width c (Ok formula) h width over = let Q : Claim → Type 0 = λ it. IsOver width it in subst Q (sym h.0) (opposite_width width c over)
negation_width c (Err fault) h width over = tt

-- so has the formula of a conjunction
atoms_width : (width : ℕ) (rows : List Affine) → AllByRecursion (HasWidth width) rows → EachRowBelow (HasWidth width) (atoms rows)
atoms_width width [] h = tt
atoms_width width (row ∷ rows) h = (h.0, atoms_width width rows h.1)

pub conj_width : (width : ℕ) (conj : Polyhedron) (rows : List Affine) (formula : Formula) → claim formula ≡ conj_claim conj → rows ≡ conj.rows → All (HasWidth width) rows
    → IsOver width (claim formula)
conj_width width conj rows formula is same h =
    let Q : Claim → Type 0 = λ c. IsOver width c in
    let P : List Affine → Type 0 = λ xs. All (HasWidth width) xs in
    subst Q (sym is) (atoms_width width conj.rows (recursion_from_All (HasWidth width) conj.rows (subst P same h)))
