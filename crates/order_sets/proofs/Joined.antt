-- Where formulas of joined lists are true.
use Rattle.std.proofs.Common.{◌⊎◌, inl, inr, ℤ, List, [], ◌∷◌, ◌++◌}
use Rattle.formula_refute.specs.Claims.{Claim, claims, EachTrueAt, SomeTrueAt}

module _ (z : List ℤ) where
  abbrev pub Each : List Claim → Type 0
  Each cs = EachTrueAt z (claims cs)

  abbrev pub Some : List Claim → Type 0
  Some cs = SomeTrueAt z (claims cs)

  pub each_join : (cs ds : List Claim) → Each cs → Each ds → Each (cs ++ ds)
  each_join [] ds p q = q
  each_join (c ∷ cs) ds p q = (p.0, each_join cs ds p.1 q)

  pub each_first : (cs ds : List Claim) → Each (cs ++ ds) → Each cs
  each_first [] ds p = tt
  each_first (c ∷ cs) ds p = (p.0, each_first cs ds p.1)

  pub each_last : (cs ds : List Claim) → Each (cs ++ ds) → Each ds
  each_last [] ds p = p
  each_last (c ∷ cs) ds p = each_last cs ds p.1

  pub some_first : (cs ds : List Claim) → Some cs → Some (cs ++ ds)
  some_first [] ds p = absurd p
  some_first (c ∷ cs) ds p = elim p as (λ _. Some ((c ∷ cs) ++ ds)) [ inl here ↦ inl here | inr rest ↦ inr (some_first cs ds rest) ]

  pub some_last : (cs ds : List Claim) → Some ds → Some (cs ++ ds)
  some_last [] ds p = p
  some_last (c ∷ cs) ds p = inr (some_last cs ds p)

  pub some_one : (cs ds : List Claim) → Some (cs ++ ds) → Some cs ⊎ Some ds
  some_one [] ds p = inr p
  some_one (c ∷ cs) ds p = elim p as (λ _. Some (c ∷ cs) ⊎ Some ds) [
    | inl here ↦ inl (inl here)
    | inr rest ↦ elim (some_one cs ds rest) as (λ _. Some (c ∷ cs) ⊎ Some ds) [ inl left ↦ inl (inr left) | inr right ↦ inr right ]
  ]
