-- Where the formulas of the domains in force are true.
use Rattle.std.proofs.Common.{◌≡◌, ◌↔◌, ℕ, ◌+◌, ◌-◌, ◌≤◌, ℤ, List, [], ◌∷◌, ◌++◌, length, take, drop, map, sym, ap, subst, ◌∙◌, arith, append-nil}
use Rattle.std.specs.List.{AllByRecursion}
use Rattle.std.proofs.Math.ListN.{drop_of_length-le}
use Rattle.std.proofs.lemmas.List.{take-take}
use Rattle.az_lin.specs.Affine.{Union, HoldsSome}
use Rattle.az_lin.specs.Columns.{without, widened_domain}
use Rattle.az_lin.proofs.HeldPoints.{widened_domain_holds}
use Rattle.az_ast.specs.Certified.{IsInContext}
use Rattle.domain_check.specs.Context.{over}
use Rattle.formula_refute.specs.Claims.{IsTrueAt}
use Rattle.formula_refute.specs.Domains.{domain_claim}
use Rattle.formula_refute.proofs.DomainTruth.{disjuncts_true}
use Rattle.order_sets.proofs.Joined.{Each}

module _ (z : List ℤ) where
  -- a domain with columns put in
  pub widened_true : (place count : ℕ) (domain : Union) → IsTrueAt z (domain_claim (widened_domain place count domain)) ↔ HoldsSome domain (without place count z)
  widened_true place count domain =
      let made = disjuncts_true z (widened_domain place count domain).disjuncts in
      let held = widened_domain_holds place count domain z in
      (λ h. held.0 (made.0 h), λ h. made.1 (held.1 h))

  first_columns : (own width : ℕ) → length z ≡ width → without own (width - own) z ≡ take own z
  first_columns own width long =
      let none : drop (own + (width - own)) z ≡ [] = drop_of_length-le z (omega arith) in
      ap (λ (xs : List ℤ). take own z ++ xs) none ∙ append-nil (take own z)

  over_true : (width : ℕ) (domain : Union) → length z ≡ width → IsTrueAt z (domain_claim (over width domain)) ↔ HoldsSome domain (take domain.width z)
  over_true width domain long =
      let P : List ℤ → Type 0 = λ y. HoldsSome domain y in
      let same = first_columns domain.width width long in
      let both = widened_true domain.width (width - domain.width) domain in
      (λ h. subst P same (both.0 h), λ h. both.1 (subst P (sym same) h))

  abbrev Over : ℕ → List Union → Type 0
  Over width domains = Each z (map (λ domain. domain_claim (over width domain)) domains)

  -- all domains, of which none has more columns than `own`
  pub context_to : (width own : ℕ) (domains : List Union) → length z ≡ width → AllByRecursion (λ (domain : Union). domain.width ≤ own) domains → Over width domains → IsInContext domains (take own z)
  context_to width own [] long inside h = tt
  context_to width own (domain ∷ domains) long inside h =
      let P : List ℤ → Type 0 = λ y. HoldsSome domain y in
      (subst P (sym (take-take domain.width own z inside.0)) ((over_true width domain long).0 h.0), context_to width own domains long inside.1 h.1)

  pub context_from : (width own : ℕ) (domains : List Union) → length z ≡ width → AllByRecursion (λ (domain : Union). domain.width ≤ own) domains → IsInContext domains (take own z) → Over width domains
  context_from width own [] long inside h = tt
  context_from width own (domain ∷ domains) long inside h =
      let P : List ℤ → Type 0 = λ y. HoldsSome domain y in
      ((over_true width domain long).1 (subst P (take-take domain.width own z inside.0) h.0), context_from width own domains long inside.1 h.1)
