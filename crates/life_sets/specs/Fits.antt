-- What must be in range for the formulas of the lifetimes: the rows composed for each read, output and writer, and
-- those of the formulas.
use Rattle.std.specs.Prelude.{ℕ, All}
use Rattle.az_lin.specs.Substitution.{HasEntryRows}
use Rattle.az_ast.specs.System.{System}
use Rattle.expr_places.specs.Reads.{ReadPlace, reads_of}
use Rattle.formula_refute.specs.Claims.{IsInRange}
use Rattle.life_sets.specs.Lifetimes.{life_claim, keep_claim}
use Rattle.life_sets.specs.Stored.{FitsVisit}
use Rattle.order_sets.specs.Visits.{read_visit, own_visit, writer_visit, time_map}
use Rattle.target_map.specs.Settings.{TargetMapping}
use Rattle.target_map.specs.Storage.{writers_of}
use Rattle.target_map.specs.Times.{domain_of, outputs_of}

module _ (p : System) (m : TargetMapping) where
  pub record FitsLife (x : ℕ) (read : ReadPlace) (y : ℕ) : Type 0 where
    pub writer : FitsVisit m (writer_visit p y read.scope.width)
    pub rows : IsInRange (life_claim p m x read y)

  pub record FitsReading (x : ℕ) (read : ReadPlace) : Type 0 where
    pub point : FitsVisit m (read_visit p read)
    pub reader : HasEntryRows (time_map m (own_visit p x read.scope.width))

  pub record FitsRead (x : ℕ) (read : ReadPlace) : Type 0 where
    pub reading : FitsReading x read
    pub writers : All (FitsLife x read) (writers_of p m read.variable)

  pub record FitsKeep (x y : ℕ) : Type 0 where
    pub writer : FitsVisit m (writer_visit p y (domain_of p x).width)
    pub rows : IsInRange (keep_claim p m x y)

  pub record FitsOutput (x : ℕ) : Type 0 where
    pub point : FitsVisit m (own_visit p x (domain_of p x).width)
    pub writers : All (FitsKeep x) (writers_of p m x)

  pub record FitsLifetimes : Type 0 where
    pub reads : All (λ equation. All (FitsRead equation.variable) (reads_of p equation)) p.equations
    pub outputs : All FitsOutput (outputs_of p)
