-- What the formulas of the lifetimes mean, and what they come to with those of the dependences: a mapping is
-- certified exactly if all of them are false at all whole points.
use Rattle.std.specs.Prelude.{◌≡◌, ◌↔◌, ◌+◌, ℕ, ℤ, List, ◌++◌, length, All}
use Rattle.az_ast.specs.Shapes.{IsProgram}
use Rattle.az_ast.specs.System.{System}
use Rattle.expr_places.specs.Reads.{ReadPlace, reads_of}
use Rattle.formula_refute.specs.Claims.{IsTrueAt}
use Rattle.life_sets.specs.Lifetimes.{life_claim, keep_claim, lifetimes}
use Rattle.order_sets.specs.Orders.{StatedClaim, dependences}
use Rattle.target_map.specs.Lifetime.{IsStoredOver, IsOutputLost}
use Rattle.target_map.specs.Promise.{IsCertifiedMap}
use Rattle.target_map.specs.Settings.{TargetMapping, IsMapping, IsComplete}
use Rattle.target_map.specs.Storage.{writers_of}
use Rattle.target_map.specs.Times.{domain_of, indices_of, outputs_of}

module _ (p : System) (m : TargetMapping) where
  abbrev pub IsLifeMeant : ℕ → ReadPlace → ℕ → Type 0
  IsLifeMeant x read y =
      (z : List ℤ) → length z ≡ read.scope.width + indices_of p y → IsTrueAt z (life_claim p m x read y) ↔ IsStoredOver p m x read y z

  abbrev pub IsKeepMeant : ℕ → ℕ → Type 0
  IsKeepMeant x y = (z : List ℤ) → length z ≡ (domain_of p x).width + indices_of p y → IsTrueAt z (keep_claim p m x y) ↔ IsOutputLost p m x y z

pub record LivesAreMeant (p : System) (m : TargetMapping) : Type 0 where
  pub reads : All (λ equation. All (λ read. All (IsLifeMeant p m equation.variable read) (writers_of p m read.variable)) (reads_of p equation)) p.equations
  pub outputs : All (λ x. All (IsKeepMeant p m x) (writers_of p m x)) (outputs_of p)

abbrev pub LifeIsMeant : Type 0
LifeIsMeant = (p : System) (m : TargetMapping) → IsProgram p → IsMapping m → IsComplete p m → LivesAreMeant p m

abbrev pub IsFalse : StatedClaim → Type 0
IsFalse stated = (z : List ℤ) → length z ≡ stated.width → ¬ IsTrueAt z stated.claim

abbrev pub CertifiedByFormulas : Type 0
CertifiedByFormulas = (p : System) (m : TargetMapping) → IsProgram p → IsMapping m → IsComplete p m
    → IsCertifiedMap p m ↔ All IsFalse (dependences p m ++ lifetimes p m)
