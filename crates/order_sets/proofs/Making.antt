-- Formulas and lists of them, as they are made one behind the other.
use Rattle.std.proofs.Common.{◌≡◌, List, [], ◌∷◌, ◌++◌, Option, Some, None, refl, sym, ap, ap₂, subst, ◌∙◌, All, append_assoc}
use Rattle.std.proofs.lemmas.List.{map-append}
use Rattle.std.proofs.lemmas.List.Elements.{All-nil, All-cons, All-head, All-tail, All-append}
use Rattle.az_lin.specs.Affine.{HasEntries}
use Rattle.az_lin.proofs.Lists.{All-left, All-right}
use Rattle.formula_refute.specs.Claims.{Claim, claim, claims, all_of, any_of, IsInRange, EachRowBelow}
use Rattle.formula_refute.specs.declared.formula.Formula.{Formula}
use Rattle.formula_refute.proofs.FormulaData.{claim-All, claim-Any}
use Rattle.order_sets.specs.Made.{IsMade, AreMade, with_member, all_members, any_member}

pub none_made : AreMade [] (Some [])
none_made = (refl, All-nil IsInRange)

more_made : (cs : List Claim) (c : Claim) (s : Option (List Formula)) (o : Option Formula) → AreMade cs s → IsMade c o → AreMade (cs ++ c ∷ []) (with_member s o)
more_made cs c None o none made = λ all. none (All-left IsInRange cs (c ∷ []) all)
more_made cs c (Some formulas) None some none = λ all. none (All-head IsInRange c [] (All-right IsInRange cs (c ∷ []) all))
more_made cs c (Some formulas) (Some formula) some made = (
  map-append claim formulas (formula ∷ []) ∙ ap₂ (λ (xs : List Claim) (x : Claim). xs ++ x ∷ []) some.0 made.0,
  All-append IsInRange cs (c ∷ []) some.1 (All-cons IsInRange c [] made.1 (All-nil IsInRange)),
)

-- after a push, and after two
pub pushed : (cs : List Claim) (c : Claim) (s t : Option (List Formula)) (o : Option Formula) → IsMade c o → t ≡ with_member s o → AreMade cs s → AreMade (cs ++ c ∷ []) t
pushed cs c s t o made is so_far = let P : Option (List Formula) → Type 0 = λ u. AreMade (cs ++ c ∷ []) u in subst P (sym is) (more_made cs c s o so_far made)

pub pushed_two : (cs : List Claim) (a b : Claim) (s t u : Option (List Formula)) (f g : Option Formula) → IsMade a f → t ≡ with_member s f → IsMade b g → u ≡ with_member t g
    → AreMade cs s → AreMade (cs ++ a ∷ b ∷ []) u
pushed_two cs a b s t u f g made is made' is' so_far =
    let P : List Claim → Type 0 = λ ds. AreMade ds u in
    subst P (append_assoc cs (a ∷ []) (b ∷ [])) (pushed (cs ++ a ∷ []) b t u g made' is' (pushed cs a s t f made is so_far))

-- the rows of members
rows_of : (cs : List Claim) → EachRowBelow HasEntries (claims cs) → All IsInRange cs
rows_of [] rows = All-nil IsInRange
rows_of (c ∷ cs) rows = All-cons IsInRange c cs rows.0 (rows_of cs rows.1)

rows_from : (cs : List Claim) → All IsInRange cs → EachRowBelow HasEntries (claims cs)
rows_from [] all = tt
rows_from (c ∷ cs) all = (All-head IsInRange c cs all, rows_from cs (All-tail IsInRange c cs all))

-- the members as one formula
all_at : (cs : List Claim) (s : Option (List Formula)) → AreMade cs s → IsMade (all_of (claims cs)) (all_members s)
all_at cs None none = λ rows. none (rows_of cs rows)
all_at cs (Some formulas) made = (claim-All formulas ∙ ap (λ ds. all_of (claims ds)) made.0, rows_from cs made.1)

any_at : (cs : List Claim) (s : Option (List Formula)) → AreMade cs s → IsMade (any_of (claims cs)) (any_member s)
any_at cs None none = λ rows. none (rows_of cs rows)
any_at cs (Some formulas) made = (claim-Any formulas ∙ ap (λ ds. any_of (claims ds)) made.0, rows_from cs made.1)

pub all_made : (cs : List Claim) (s : Option (List Formula)) (o : Option Formula) → o ≡ all_members s → AreMade cs s → IsMade (all_of (claims cs)) o
all_made cs s o is made = let P : Option Formula → Type 0 = λ u. IsMade (all_of (claims cs)) u in subst P (sym is) (all_at cs s made)

pub any_made : (cs : List Claim) (s : Option (List Formula)) (o : Option Formula) → o ≡ any_member s → AreMade cs s → IsMade (any_of (claims cs)) o
any_made cs s o is made = let P : Option Formula → Type 0 = λ u. IsMade (any_of (claims cs)) u in subst P (sym is) (any_at cs s made)

-- the same claims in other words
pub made_same : (cs ds : List Claim) (s : Option (List Formula)) → cs ≡ ds → AreMade cs s → AreMade ds s
made_same cs ds s same made = let P : List Claim → Type 0 = λ es. AreMade es s in subst P same made

pub claim_same : (c d : Claim) (o : Option Formula) → c ≡ d → IsMade c o → IsMade d o
claim_same c d o same made = let P : Claim → Type 0 = λ e. IsMade e o in subst P same made

pub new_made : (s : Option (List Formula)) → s ≡ Some [] → AreMade [] s
new_made s is = let P : Option (List Formula) → Type 0 = λ u. AreMade [] u in subst P (sym is) none_made
