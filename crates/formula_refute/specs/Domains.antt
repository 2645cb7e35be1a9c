-- The formula of a domain: of one disjunct all of its rows, of several any of these in order.
use Rattle.std.specs.Prelude.{List, [], ◌∷◌}
use Rattle.az_lin.specs.Affine.{Affine, Polyhedron, Union}
use Rattle.formula_refute.specs.Claims.{Claim, atom, all_of, any_of, Claims, none, more}

abbrev pub atoms : List Affine → Claims
atoms [] = none
atoms (row ∷ rows) = more (atom row) (atoms rows)

abbrev pub conj_claim : Polyhedron → Claim
conj_claim conj = all_of (atoms conj.rows)

abbrev pub conj_claims : List Polyhedron → Claims
conj_claims [] = none
conj_claims (conj ∷ conjs) = more (conj_claim conj) (conj_claims conjs)

abbrev pub claim_of_disjuncts : List Polyhedron → Claim
claim_of_disjuncts [] = any_of none
claim_of_disjuncts (conj ∷ []) = conj_claim conj
claim_of_disjuncts (conj ∷ other ∷ conjs) = any_of (conj_claims (conj ∷ other ∷ conjs))

abbrev pub domain_claim : Union → Claim
domain_claim domain = claim_of_disjuncts domain.disjuncts
