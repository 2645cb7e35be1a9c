-- A formula as plain data, on which definitions go by cases and proofs by induction, and where it is true: an atom
-- where its row is at least 0, `all_of` where each member is true, `any_of` where some member is.
use Rattle.std.specs.Prelude.{ℕ, ℤ, List, [], ◌∷◌, ◌⊎◌}
use Rattle.az_lin.specs.Affine.{Affine, IsAtLeastZero, HasWidth, HasEntries}
use Rattle.formula_refute.specs.declared.formula.Formula.{Formula}
use Rattle.formula_refute.specs.declared.formula.Formula.TheFolds.{fold-Formula}
use Rattle.formula_refute.specs.declared.formula.Formula.TheOpen.{Formula-F}

mutual
  pub data Claim : Type 0 where
    atom : Affine → Claim
    all_of : Claims → Claim
    any_of : Claims → Claim

  pub data Claims : Type 0 where
    none : Claims
    more : Claim → Claims → Claims

abbrev pub claims : List Claim → Claims
claims [] = none
claims (c ∷ cs) = more c (claims cs)

-- one layer of a formula whose members are data already
abbrev pub claim_of_layer : Formula-F Claim → Claim
claim_of_layer (Formula-F.Atom row) = atom row
claim_of_layer (Formula-F.All members) = all_of (claims members)
claim_of_layer (Formula-F.Any members) = any_of (claims members)

abbrev pub claim : Formula → Claim
claim = fold-Formula Claim claim_of_layer

abbrev mutual
  pub IsTrueAt : List ℤ → Claim → Type 0
  IsTrueAt z (atom row) = IsAtLeastZero z row
  IsTrueAt z (all_of cs) = EachTrueAt z cs
  IsTrueAt z (any_of cs) = SomeTrueAt z cs

  pub EachTrueAt : List ℤ → Claims → Type 0
  EachTrueAt z none = Unit {0}
  EachTrueAt z (more c cs) = IsTrueAt z c × EachTrueAt z cs

  pub SomeTrueAt : List ℤ → Claims → Type 0
  SomeTrueAt z none = ⊥
  SomeTrueAt z (more c cs) = IsTrueAt z c ⊎ SomeTrueAt z cs

-- what each row of a formula has
abbrev mutual
  pub EachRow : (Affine → Type 0) → Claim → Type 0
  EachRow P (atom row) = P row
  EachRow P (all_of cs) = EachRowBelow P cs
  EachRow P (any_of cs) = EachRowBelow P cs

  pub EachRowBelow : (Affine → Type 0) → Claims → Type 0
  EachRowBelow P none = Unit {0}
  EachRowBelow P (more c cs) = EachRow P c × EachRowBelow P cs

abbrev pub IsOver : ℕ → Claim → Type 0
IsOver width c = EachRow (HasWidth width) c

abbrev pub IsInRange : Claim → Type 0
IsInRange c = EachRow HasEntries c
