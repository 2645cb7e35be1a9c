-- The data of each form of formula.
use Rattle.std.proofs.Common.{◌≡◌, ℕ, suc, ◌+◌, ◌<◌, ◌∙◌, List, ◌∷◌, rules, ap, sym, get_or, drop, length, drop-cons, add-one}
use Rattle.std.specs.Prelude.{map}
use Rattle.az_lin.specs.Affine.{Affine}
use Rattle.formula_refute.specs.declared.formula.Formula.{Formula}
use Rattle.formula_refute.specs.declared.formula.Formula.TheVariants.{Atom, All, Any}
use Rattle.formula_refute.specs.declared.formula.Formula.TheFolds.{the_lemmas}
use Rattle.formula_refute.specs.Claims.{Claims, atom, all_of, any_of, claims, claim}

pub claim-Atom : (row : Affine) → claim (Atom row) ≡ atom row
claim-Atom row = search (rules, the_lemmas)

pub claim-All : (members : List Formula) → claim (All members) ≡ all_of (claims (map claim members))
claim-All members = search (rules, the_lemmas)

pub claim-Any : (members : List Formula) → claim (Any members) ≡ any_of (claims (map claim members))
claim-Any members = search (rules, the_lemmas)

-- the data of the members
abbrev pub below : List Formula → Claims
below members = claims (map claim members)

-- the data of a formula with these members
module _ (f : Formula) (members items : List Formula) (same : items ≡ members) where
  pub all_data : f ≡ All members → claim f ≡ all_of (below items)
  all_data is = ap claim is ∙ (claim-All members ∙ ap (λ x. all_of (below x)) (sym same))

  pub any_data : f ≡ Any members → claim f ≡ any_of (below items)
  any_data is = ap claim is ∙ (claim-Any members ∙ ap (λ x. any_of (below x)) (sym same))

-- the next member is the first of those that are left
pub next_member : (items : List Formula) (i : ℕ) (m : Formula) → i < length items → m ≡ get_or items i m → drop i items ≡ m ∷ drop (i + 1) items
next_member items i m here is = rw add-one (drop-cons items i m here ∙ ap (λ x. x ∷ drop (suc i) items) (sym is))
