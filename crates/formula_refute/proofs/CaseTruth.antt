-- Some case of a formula holds a point exactly where the formula is true there.
use Rattle.std.proofs.Common.{◌≡◌, ◌⊎◌, inl, inr, ℕ, zero, suc, ◌<◌, ℤ, List, [], ◌∷◌, ◌++◌, length, arith, ◌↔◌, get_or, refl, sym, subst}
use Rattle.std.specs.Prelude.{map, Any}
use Rattle.std.specs.List.{AllByRecursion}
use Rattle.std.proofs.lemmas.List.Elements.{All-from_recursion, recursion_from_All}
use Rattle.az_lin.proofs.AllLists.{all_first, all_last}
use Rattle.az_lin.specs.Affine.{Affine, Polyhedron, IsAtLeastZero, Holds}
use Rattle.formula_refute.specs.Claims.{Claim, atom, all_of, any_of, Claims, none, more, IsTrueAt, EachTrueAt, SomeTrueAt}
use Rattle.formula_refute.specs.Cases.{choices, cases, cases_of_all, cases_of_any, system_of, systems}

abbrev pub RowsHold : List ℤ → List Affine → Type 0
RowsHold z rows = AllByRecursion (IsAtLeastZero z) rows

-- the rows of some case hold
abbrev pub SomeHolds : List ℤ → List (List Affine) → Type 0
SomeHolds z [] = ⊥
SomeHolds z (rows ∷ rest) = RowsHold z rows ⊎ SomeHolds z rest

module _ (z : List ℤ) where
  rows_join : (xs ys : List Affine) → RowsHold z xs → RowsHold z ys → RowsHold z (xs ++ ys)
  rows_join [] ys p q = q
  rows_join (x ∷ xs) ys p q = (p.0, rows_join xs ys p.1 q)

  in_first : (xs ys : List (List Affine)) → SomeHolds z xs → SomeHolds z (xs ++ ys)
  in_first [] ys p = absurd p
  in_first (x ∷ xs) ys p = elim p as (λ _. SomeHolds z ((x ∷ xs) ++ ys)) [ inl here ↦ inl here | inr rest ↦ inr (in_first xs ys rest) ]

  in_second : (xs ys : List (List Affine)) → SomeHolds z ys → SomeHolds z (xs ++ ys)
  in_second [] ys p = p
  in_second (x ∷ xs) ys p = inr (in_second xs ys p)

  in_one : (xs ys : List (List Affine)) → SomeHolds z (xs ++ ys) → SomeHolds z xs ⊎ SomeHolds z ys
  in_one [] ys p = inr p
  in_one (x ∷ xs) ys p = elim p as (λ _. SomeHolds z (x ∷ xs) ⊎ SomeHolds z ys) [
    | inl here ↦ inl (inl here)
    | inr rest ↦ elim (in_one xs ys rest) as (λ _. SomeHolds z (x ∷ xs) ⊎ SomeHolds z ys) [ inl left ↦ inl (inr left) | inr right ↦ inr right ]
  ]

  with_each : (x : List Affine) (ys : List (List Affine)) → RowsHold z x → SomeHolds z ys → SomeHolds z (map (λ y. x ++ y) ys)
  with_each x [] p q = q
  with_each x (y ∷ ys) p q = elim q as (λ _. SomeHolds z (map (λ y. x ++ y) (y ∷ ys))) [ inl here ↦ inl (rows_join x y p here) | inr rest ↦ inr (with_each x ys p rest) ]

  both_of_each : (x : List Affine) (ys : List (List Affine)) → SomeHolds z (map (λ y. x ++ y) ys) → RowsHold z x × SomeHolds z ys
  both_of_each x [] p = absurd p
  both_of_each x (y ∷ ys) p = elim p as (λ _. RowsHold z x × SomeHolds z (y ∷ ys)) [
    | inl here ↦ (all_first (IsAtLeastZero z) x y here, inl (all_last (IsAtLeastZero z) x y here))
    | inr rest ↦ (let both = both_of_each x ys rest in (both.0, inr both.1))
  ]

  choice_to : (xs ys : List (List Affine)) → SomeHolds z xs → SomeHolds z ys → SomeHolds z (choices xs ys)
  choice_to [] ys p q = p
  choice_to (x ∷ xs) ys p q = elim p as (λ _. SomeHolds z (choices (x ∷ xs) ys)) [
    | inl here ↦ in_first (map (λ y. x ++ y) ys) (choices xs ys) (with_each x ys here q)
    | inr rest ↦ in_second (map (λ y. x ++ y) ys) (choices xs ys) (choice_to xs ys rest q)
  ]

  choice_from : (xs ys : List (List Affine)) → SomeHolds z (choices xs ys) → SomeHolds z xs × SomeHolds z ys
  choice_from [] ys p = absurd p
  choice_from (x ∷ xs) ys p = elim (in_one (map (λ y. x ++ y) ys) (choices xs ys) p) as (λ _. SomeHolds z (x ∷ xs) × SomeHolds z ys) [
    | inl first ↦ (let both = both_of_each x ys first in (inl both.0, both.1))
    | inr rest ↦ (let both = choice_from xs ys rest in (inr both.0, both.1))
  ]

  mutual
    pub case_to : (c : Claim) → IsTrueAt z c → SomeHolds z (cases c)
    case_to (atom row) p = inl (p, tt)
    case_to (all_of cs) p = case_to_all cs p
    case_to (any_of cs) p = case_to_any cs p

    case_to_all : (cs : Claims) → EachTrueAt z cs → SomeHolds z (cases_of_all cs)
    case_to_all none p = inl tt
    case_to_all (more c cs) p = choice_to (cases c) (cases_of_all cs) (case_to c p.0) (case_to_all cs p.1)

    case_to_any : (cs : Claims) → SomeTrueAt z cs → SomeHolds z (cases_of_any cs)
    case_to_any none p = absurd p
    case_to_any (more c cs) p = elim p as (λ _. SomeHolds z (cases c ++ cases_of_any cs)) [
      | inl here ↦ in_first (cases c) (cases_of_any cs) (case_to c here)
      | inr rest ↦ in_second (cases c) (cases_of_any cs) (case_to_any cs rest)
    ]

  mutual
    pub case_from : (c : Claim) → SomeHolds z (cases c) → IsTrueAt z c
    case_from (atom row) p = elim p as (λ _. IsTrueAt z (atom row)) [ inl here ↦ here.0 | inr rest ↦ absurd rest ]
    case_from (all_of cs) p = case_from_all cs p
    case_from (any_of cs) p = case_from_any cs p

    case_from_all : (cs : Claims) → SomeHolds z (cases_of_all cs) → EachTrueAt z cs
    case_from_all none p = tt
    case_from_all (more c cs) p = let both = choice_from (cases c) (cases_of_all cs) p in (case_from c both.0, case_from_all cs both.1)

    case_from_any : (cs : Claims) → SomeHolds z (cases_of_any cs) → SomeTrueAt z cs
    case_from_any none p = absurd p
    case_from_any (more c cs) p = elim (in_one (cases c) (cases_of_any cs) p) as (λ _. SomeTrueAt z (more c cs)) [
      | inl here ↦ inl (case_from c here)
      | inr rest ↦ inr (case_from_any cs rest)
    ]

  some_to_any : (width : ℕ) (rows : List (List Affine)) → SomeHolds z rows → Any (λ system. Holds system z) (map (system_of width) rows)
  some_to_any width [] p = absurd p
  some_to_any width (first ∷ rest) p = elim p as (λ _. Any (λ system. Holds system z) (map (system_of width) (first ∷ rest))) [
    | inl here ↦ (0, system_of width first, omega arith, refl, All-from_recursion (IsAtLeastZero z) first here)
    | inr there ↦ (let found = some_to_any width rest there in (suc found.0, found.1, omega arith, found.3, found.4))
  ]

  some_at : (width : ℕ) (rows : List (List Affine)) (k : ℕ) (system : Polyhedron) → k < length (map (system_of width) rows)
      → get_or (map (system_of width) rows) k system ≡ system → Holds system z → SomeHolds z rows
  some_at width [] k system below is holds = absurd (omega arith)
  some_at width (first ∷ rest) zero system below is holds =
      let P : Polyhedron → Type 0 = λ it. Holds it z in
      inl (recursion_from_All (IsAtLeastZero z) first (subst P (sym is) holds))
  some_at width (first ∷ rest) (suc k) system below is holds = inr (some_at width rest k system (omega arith) is holds)

  -- as the systems say it
  pub some_system : (width : ℕ) (c : Claim) → Any (λ system. Holds system z) (systems width c) ↔ IsTrueAt z c
  some_system width c = (
    λ found. case_from c (some_at width (cases c) found.0 found.1 found.2 found.3 found.4),
    λ true. some_to_any width (cases c) (case_to c true),
  )
