-- What a certified mapping gives at each point: a read's point is before its reader, and another instance that may be
-- kept in its cell is before it, is the reader or comes after it.
use Rattle.std.specs.Prelude.{◌≡◌, ◌+◌, ◌⊎◌, ℕ, ℤ, List, length, take, All}
use Rattle.az_lin.specs.Affine.{HoldsSome}
use Rattle.az_ast.specs.Certified.{IsInContext}
use Rattle.az_ast.specs.System.{System}
use Rattle.expr_places.specs.Reads.{ReadPlace, reads_of}
use Rattle.target_map.specs.Dependence.{point_read, point_of}
use Rattle.target_map.specs.Lifetime.{writer_point}
use Rattle.target_map.specs.Promise.{IsCertifiedMap}
use Rattle.target_map.specs.Settings.{TargetMapping}
use Rattle.target_map.specs.Storage.{MayShare, writers_of}
use Rattle.target_map.specs.Times.{storage_of, cell_at, domain_of, indices_of, IsBefore}

abbrev pub IsSame : ℕ → List ℤ → ℕ → List ℤ → Type 0
IsSame x a y b = (x ≡ y) × (a ≡ b)

module _ (p : System) (m : TargetMapping) where
  abbrev pub IsTimely : ℕ → ReadPlace → Type 0
  IsTimely x read =
      (z : List ℤ) → length z ≡ read.scope.width → IsInContext read.scope.domains z → IsBefore m read.variable (point_read p read z) x (point_of p x z)

  -- the instance of `y` at `b` is stored into the cell of that of `x` at `a`
  abbrev pub SharesCell : ℕ → List ℤ → ℕ → List ℤ → Type 0
  SharesCell y b x a = HoldsSome (domain_of p y) b × MayShare (storage_of m x).factors (cell_at m y b) (cell_at m x a)

  abbrev pub IsSafeBeside : ℕ → ReadPlace → ℕ → Type 0
  IsSafeBeside x read y =
      (z : List ℤ) → length z ≡ read.scope.width + indices_of p y → IsInContext read.scope.domains (take read.scope.width z)
      → let a = point_read p read (take read.scope.width z) in let b = writer_point p read.scope.width z in let w = point_of p x z in
      SharesCell y b read.variable a → (IsSame y b read.variable a ⊎ IsBefore m y b read.variable a) ⊎ (IsSame y b x w ⊎ IsBefore m x w y b)

pub record GivesOrder (p : System) (m : TargetMapping) : Type 0 where
  pub timely : All (λ equation. All (IsTimely p m equation.variable) (reads_of p equation)) p.equations
  pub safe : All (λ equation. All (λ read. All (IsSafeBeside p m equation.variable read) (writers_of p m read.variable)) (reads_of p equation)) p.equations

abbrev pub CertifiedGivesOrder : Type 0
CertifiedGivesOrder = (p : System) (m : TargetMapping) → IsCertifiedMap p m → GivesOrder p m
