-- The rule of a version.
use Rattle.std.proofs.Common.{◌≡◌, ◌≢◌, ℕ, zero, suc, List, refl, sym, subst}
use Rattle.az_lin.specs.Affine.{Affine}
use Rattle.az_lin.specs.Derivation.{IsStep, IsExactStep}
use Rattle.az_lin.specs.declared.step.Step.{Step}
use Rattle.map_verify.specs.Certificates.{rule_of}

-- what holds of the rule that the judge is asked for holds of the version's
module _ (P : (List Affine → Step → Type 0) → Type 0) where
  pub by_first : (version : ℕ) → version ≡ 1 → P IsExactStep → P (rule_of version)
  by_first version one is = let Q : ℕ → Type 0 = λ v. P (rule_of v) in subst Q (sym one) is

  pub by_other : (version : ℕ) → version ≢ 1 → P IsStep → P (rule_of version)
  by_other zero other is = is
  by_other (suc zero) other is = absurd (other refl)
  by_other (suc (suc n)) other is = is
