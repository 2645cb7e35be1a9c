-- What is made of claims: a formula, or a list of them. There is none where a row would be out of range.
use Rattle.std.specs.Prelude.{◌≡◌, List, [], ◌∷◌, ◌++◌, map, All, Option, Some, None, option_map}
use Rattle.formula_refute.specs.Claims.{Claim, claim, IsInRange}
use Rattle.formula_refute.specs.declared.formula.Formula.{Formula}
use Rattle.formula_refute.specs.declared.formula.Formula.TheVariants as form

-- a value where what is made on the way fits, and none else
abbrev pub MadeIf : {A : Type 0} → Type 0 → (A → Type 0) → Option A → Type 0
MadeIf fits IsWanted None = fits → ⊥
MadeIf fits IsWanted (Some made) = IsWanted made × fits

abbrev pub IsMade : Claim → Option Formula → Type 0
IsMade c = MadeIf (IsInRange c) (λ formula. claim formula ≡ c)

abbrev pub AreMade : List Claim → Option (List Formula) → Type 0
AreMade cs = MadeIf (All IsInRange cs) (λ formulas. map claim formulas ≡ cs)

-- one behind the others; where it is missing, all are
abbrev pub with_member : Option (List Formula) → Option Formula → Option (List Formula)
with_member None formula = None
with_member (Some formulas) None = None
with_member (Some formulas) (Some formula) = Some (formulas ++ formula ∷ [])

-- all of them, or any, as one formula
abbrev pub all_members : Option (List Formula) → Option Formula
all_members formulas = option_map form.All formulas

abbrev pub any_member : Option (List Formula) → Option Formula
any_member formulas = option_map form.Any formulas
