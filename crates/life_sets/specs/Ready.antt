-- What the formulas of a certified program's lifetimes stand on.
use Rattle.std.specs.Prelude.{◌≡◌, ◌≤◌, ◌<◌, ℕ, List, All, length}
use Rattle.az_ast.specs.System.{System}
use Rattle.az_ast.specs.declared.program.Equation.{Equation}
use Rattle.expr_places.specs.Reads.{ReadPlace, reads_of}
use Rattle.expr_places.specs.declared.scope.Scope.{Scope}
use Rattle.life_sets.specs.Beside.{IsWriter}
use Rattle.life_sets.specs.Stored.{IsStored, IsInstance}
use Rattle.life_sets.specs.declared.instance.Instance.{Instance}
use Rattle.life_sets.specs.declared.reading.Reading.{Reading}
use Rattle.order_sets.specs.Reading.{HasReads}
use Rattle.order_sets.specs.Rows.{stamp_of}
use Rattle.order_sets.specs.Visits.{read_visit, own_visit, writer_visit, time_rows}
use Rattle.target_map.specs.Kinds.{tile_sizes}
use Rattle.target_map.specs.Settings.{TargetMapping, IsMapping, IsComplete, is_written}
use Rattle.target_map.specs.Storage.{writers_of}
use Rattle.target_map.specs.Times.{domain_of}

-- an output or local
pub record IsOwn (p : System) (x : ℕ) : Type 0 where
  pub written : is_written p x
  pub declared : x < length p.variables
  pub params : length p.params ≤ (domain_of p x).width
  pub narrow : (domain_of p x).width ≤ 64

pub record IsTarget (p : System) (m : TargetMapping) (sizes : List ℕ) : Type 0 where
  pub complete : IsComplete p m
  pub mapping : IsMapping m
  pub tiles : sizes ≡ tile_sizes m.kinds
  pub parameters : p.pdom.width ≡ length p.params

-- the instances of a read of the equation of `x`
pub record IsReading (p : System) (m : TargetMapping) (x : ℕ) (read : ReadPlace) (reading : Reading) : Type 0 where
  pub point : IsInstance m (read_visit p read) reading.point
  pub reader : reading.reader ≡ own_visit p x read.scope.width
  pub time : stamp_of reading.time ≡ time_rows m (own_visit p x read.scope.width)

-- a writer beside an instance, and what is in force there
pub record IsBeside (p : System) (m : TargetMapping) (scope : Scope) (y : ℕ) (writer point : Instance) : Type 0 where
  pub inside : All (λ domain. domain.width ≤ scope.width) scope.domains
  pub columns : IsWriter p y scope.width
  pub stores : IsInstance m (writer_visit p y scope.width) writer
  pub there : IsInstance m point.visit point
  pub stored : IsStored m point.visit
  pub rows : length p.params ≤ length point.visit.at.rows

-- the reads of an equation, whose variables' spaces have outputs and locals alone
pub record IsReadyEquation (p : System) (m : TargetMapping) (equation : Equation) : Type 0 where
  pub own : IsOwn p equation.variable
  pub reads : HasReads p equation.variable (reads_of p equation)
  pub writers : All (λ read. All (IsOwn p) (writers_of p m read.variable)) (reads_of p equation)
