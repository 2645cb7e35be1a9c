-- Of a formula and its opposite exactly one is true at a whole point.
use Rattle.std.proofs.Common.{◌⊎◌, inl, inr, ℤ, pos, List, arith, ◌↔◌}
use Rattle.std.proofs.lemmas.Int.{ints, by_lt_z}
use Rattle.az_lin.specs.Affine.{Affine, IsAtLeastZero, value_at}
use Rattle.az_lin.specs.Negation.{negated}
use Rattle.az_lin.proofs.Negation.{negated_holds}
use Rattle.formula_refute.specs.Claims.{Claim, atom, all_of, any_of, Claims, none, more, IsTrueAt, EachTrueAt, SomeTrueAt}
use Rattle.formula_refute.specs.Opposite.{opposite, opposites}

row_or_negated : (z : List ℤ) (row : Affine) → IsAtLeastZero z row ⊎ IsAtLeastZero z (negated row)
row_or_negated z row =
    by_lt_z (value_at row z) (pos 0) (λ below. inr ((negated_holds row z).1 (λ above. omega (arith, ints, below, above)))) (λ above. inl above)

mutual
  pub true_or_opposite : (z : List ℤ) (c : Claim) → IsTrueAt z c ⊎ IsTrueAt z (opposite c)
  true_or_opposite z (atom row) = row_or_negated z row
  true_or_opposite z (all_of cs) = each_or_opposite z cs
  true_or_opposite z (any_of cs) = some_or_opposites z cs

  each_or_opposite : (z : List ℤ) (cs : Claims) → EachTrueAt z cs ⊎ SomeTrueAt z (opposites cs)
  each_or_opposite z none = inl tt
  each_or_opposite z (more c cs) =
      elim (true_or_opposite z c) as (λ _. EachTrueAt z (more c cs) ⊎ SomeTrueAt z (opposites (more c cs))) [
        | inl here ↦ elim (each_or_opposite z cs) as (λ _. EachTrueAt z (more c cs) ⊎ SomeTrueAt z (opposites (more c cs))) [
          | inl rest ↦ inl (here, rest)
          | inr rest ↦ inr (inr rest)
        ]
        | inr here ↦ inr (inl here)
      ]

  some_or_opposites : (z : List ℤ) (cs : Claims) → SomeTrueAt z cs ⊎ EachTrueAt z (opposites cs)
  some_or_opposites z none = inr tt
  some_or_opposites z (more c cs) =
      elim (true_or_opposite z c) as (λ _. SomeTrueAt z (more c cs) ⊎ EachTrueAt z (opposites (more c cs))) [
        | inl here ↦ inl (inl here)
        | inr here ↦ elim (some_or_opposites z cs) as (λ _. SomeTrueAt z (more c cs) ⊎ EachTrueAt z (opposites (more c cs))) [
          | inl rest ↦ inl (inr rest)
          | inr rest ↦ inr (here, rest)
        ]
      ]

mutual
  pub not_both : (z : List ℤ) (c : Claim) → IsTrueAt z c → IsTrueAt z (opposite c) → ⊥
  not_both z (atom row) here other = (negated_holds row z).0 other here
  not_both z (all_of cs) here other = each_not_some z cs here other
  not_both z (any_of cs) here other = some_not_each z cs here other

  each_not_some : (z : List ℤ) (cs : Claims) → EachTrueAt z cs → SomeTrueAt z (opposites cs) → ⊥
  each_not_some z none each some = some
  each_not_some z (more c cs) each some =
      elim some as (λ _. ⊥) [ inl here ↦ not_both z c each.0 here | inr rest ↦ each_not_some z cs each.1 rest ]

  some_not_each : (z : List ℤ) (cs : Claims) → SomeTrueAt z cs → EachTrueAt z (opposites cs) → ⊥
  some_not_each z none some each = some
  some_not_each z (more c cs) some each =
      elim some as (λ _. ⊥) [ inl here ↦ not_both z c here each.0 | inr rest ↦ some_not_each z cs rest each.1 ]

pub opposite_holds : (z : List ℤ) (c : Claim) → IsTrueAt z (opposite c) ↔ (IsTrueAt z c → ⊥)
opposite_holds z c = (
  λ other here. not_both z c here other,
  λ fails. elim (true_or_opposite z c) as (λ _. IsTrueAt z (opposite c)) [ inl here ↦ absurd (fails here) | inr other ↦ other ],
)
