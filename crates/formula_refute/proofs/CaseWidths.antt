-- The rows of a case are rows of the formula, and the systems of the cases by their numbers.
use Rattle.std.proofs.Common.{◌≡◌, ℕ, ◌<◌, ◌∙◌, List, [], ◌∷◌, ◌++◌, length, get_or, map, All, sym}
use Rattle.std.specs.List.{AllByRecursion}
use Rattle.std.proofs.lemmas.List.Elements.{All-from_recursion, All-get_or}
use Rattle.std.proofs.lemmas.List.{length-map, get_or-map}
use Rattle.az_lin.specs.Affine.{Affine, Polyhedron, HasWidth}
use Rattle.formula_refute.specs.Claims.{Claim, atom, all_of, any_of, Claims, none, more, EachRow, EachRowBelow, IsOver}
use Rattle.formula_refute.specs.Cases.{choices, cases, cases_of_all, cases_of_any, system_of, systems}

module _ (P : Affine → Type 0) where
  abbrev pub EachHas : List (List Affine) → Type 0
  EachHas all = AllByRecursion (λ rows. AllByRecursion P rows) all

  rows_join : (xs ys : List Affine) → AllByRecursion P xs → AllByRecursion P ys → AllByRecursion P (xs ++ ys)
  rows_join [] ys p q = q
  rows_join (x ∷ xs) ys p q = (p.0, rows_join xs ys p.1 q)

  cases_join : (xs ys : List (List Affine)) → EachHas xs → EachHas ys → EachHas (xs ++ ys)
  cases_join [] ys p q = q
  cases_join (x ∷ xs) ys p q = (p.0, cases_join xs ys p.1 q)

  with_first : (x : List Affine) (ys : List (List Affine)) → AllByRecursion P x → EachHas ys → EachHas (map (λ y. x ++ y) ys)
  with_first x [] p q = tt
  with_first x (y ∷ ys) p q = (rows_join x y p q.0, with_first x ys p q.1)

  choices_have : (xs ys : List (List Affine)) → EachHas xs → EachHas ys → EachHas (choices xs ys)
  choices_have [] ys p q = tt
  choices_have (x ∷ xs) ys p q = cases_join (map (λ y. x ++ y) ys) (choices xs ys) (with_first x ys p.0 q) (choices_have xs ys p.1 q)

  mutual
    pub cases_have : (c : Claim) → EachRow P c → EachHas (cases c)
    cases_have (atom row) h = ((h, tt), tt)
    cases_have (all_of cs) h = all_have cs h
    cases_have (any_of cs) h = any_have cs h

    all_have : (cs : Claims) → EachRowBelow P cs → EachHas (cases_of_all cs)
    all_have none h = (tt, tt)
    all_have (more c cs) h = choices_have (cases c) (cases_of_all cs) (cases_have c h.0) (all_have cs h.1)

    any_have : (cs : Claims) → EachRowBelow P cs → EachHas (cases_of_any cs)
    any_have none h = tt
    any_have (more c cs) h = cases_join (cases c) (cases_of_any cs) (cases_have c h.0) (any_have cs h.1)

pub case_widths : (width : ℕ) (c : Claim) (number : ℕ) → IsOver width c → number < length (cases c) → All (HasWidth width) (get_or (cases c) number [])
case_widths width c number over here =
    let P : List Affine → Type 0 = λ rows. AllByRecursion (HasWidth width) rows in
    All-from_recursion (HasWidth width) (get_or (cases c) number [])
    (All-get_or P (cases c) number [] here (All-from_recursion P (cases c) (cases_have (HasWidth width) c over)))

pub system_at : (width : ℕ) (c : Claim) (number : ℕ) (system : Polyhedron) → number < length (cases c) → system ≡ system_of width (get_or (cases c) number [])
    → system ≡ get_or (systems width c) number system
system_at width c number system here is = is ∙ sym (get_or-map (system_of width) (cases c) number [] system here)

pub length-systems : (width : ℕ) (c : Claim) → length (systems width c) ≡ length (cases c)
length-systems width c = length-map (cases c) (system_of width)
