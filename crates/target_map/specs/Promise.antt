-- The promise that a target mapping has to keep: a certified mapping.
--
-- At all whole points each read is of a point that is before its reader, no value is stored over before its last
-- read, and no output's value is stored over at all.
use Rattle.std.specs.Prelude.{◌≡◌, ◌+◌, ℕ, ℤ, List, length, All}
use Rattle.az_ast.specs.System.{System}
use Rattle.expr_places.specs.Reads.{ReadPlace, reads_of}
use Rattle.target_map.specs.Dependence.{ReadsTooEarly}
use Rattle.target_map.specs.Lifetime.{IsStoredOver, IsOutputLost}
use Rattle.target_map.specs.Settings.{TargetMapping, IsComplete}
use Rattle.target_map.specs.Storage.{writers_of}
use Rattle.target_map.specs.Times.{domain_of, indices_of, outputs_of}

-- at no point of so many columns
abbrev pub Never : ℕ → (List ℤ → Type 0) → Type 0
Never width Fails = (z : List ℤ) → length z ≡ width → ¬ Fails z

module _ (p : System) (m : TargetMapping) where
  abbrev pub IsRespected : ℕ → ReadPlace → Type 0
  IsRespected x read = Never read.scope.width (ReadsTooEarly p m x read)

  abbrev pub IsKept : ℕ → ReadPlace → Type 0
  IsKept x read = All (λ y. Never (read.scope.width + indices_of p y) (IsStoredOver p m x read y)) (writers_of p m read.variable)

  abbrev pub IsOutputKept : ℕ → Type 0
  IsOutputKept x = All (λ y. Never ((domain_of p x).width + indices_of p y) (IsOutputLost p m x y)) (writers_of p m x)

pub record IsCertifiedMap (p : System) (m : TargetMapping) : Type 0 where
  pub complete : IsComplete p m
  pub dependences : All (λ equation. All (IsRespected p m equation.variable) (reads_of p equation)) p.equations
  pub lifetimes : All (λ equation. All (IsKept p m equation.variable) (reads_of p equation)) p.equations
  pub outputs : All (IsOutputKept p m) (outputs_of p)
