-- What storage asks of time: between the instance that stores a value and the last one that reads it no other
-- instance stores into its cell.
--
-- So each other instance whose cell may be the same is before the point that is read, or is the reader, or comes
-- after it; and beside an output point it is before that point. The points have the columns of the read, or of the
-- output, and then the indices of the other instance, the writer.
use Rattle.std.specs.Prelude.{◌≡◌, ℕ, ℤ, List, ◌++◌, length, take, drop}
use Rattle.az_lin.specs.Affine.{HoldsSome}
use Rattle.az_ast.specs.Certified.{IsInContext}
use Rattle.az_ast.specs.System.{System}
use Rattle.expr_places.specs.Reads.{ReadPlace}
use Rattle.target_map.specs.Dependence.{point_read, point_of}
use Rattle.target_map.specs.Settings.{TargetMapping}
use Rattle.target_map.specs.Storage.{MayShare}
use Rattle.target_map.specs.Times.{storage_of, cell_at, domain_of, IsBefore}

-- the parameters, and the writer's indices behind so many columns
abbrev pub writer_point : System → ℕ → List ℤ → List ℤ
writer_point p width z = take (length p.params) z ++ drop width z

-- one instance: the same variable at the same point
abbrev pub IsOther : ℕ → List ℤ → ℕ → List ℤ → Type 0
IsOther x a y b = x ≡ y → a ≡ b → ⊥

-- the instance of `y` at `b` is stored into the same cell as that of `x` at `a`, and isn't before it
pub record StoresOver (p : System) (m : TargetMapping) (y : ℕ) (b : List ℤ) (x : ℕ) (a : List ℤ) : Type 0 where
  pub instance : HoldsSome (domain_of p y) b
  pub same_cell : MayShare (storage_of m x).factors (cell_at m y b) (cell_at m x a)
  pub other : IsOther y b x a
  pub not_before : ¬ IsBefore m y b x a

-- where it fails for a read of the equation of `x` and the writer `y`
pub record IsStoredOver (p : System) (m : TargetMapping) (x : ℕ) (read : ReadPlace) (y : ℕ) (z : List ℤ) : Type 0 where
  pub in_force : IsInContext read.scope.domains (take read.scope.width z)
  pub over : StoresOver p m y (writer_point p read.scope.width z) read.variable (point_read p read (take read.scope.width z))
  pub other_than_reader : IsOther y (writer_point p read.scope.width z) x (point_of p x z)
  pub not_after : ¬ IsBefore m x (point_of p x z) y (writer_point p read.scope.width z)

-- where it fails for the output `x` and the writer `y`
pub record IsOutputLost (p : System) (m : TargetMapping) (x : ℕ) (y : ℕ) (z : List ℤ) : Type 0 where
  pub parameters : HoldsSome p.pdom (take p.pdom.width z)
  pub output : HoldsSome (domain_of p x) (point_of p x z)
  pub over : StoresOver p m y (writer_point p (domain_of p x).width z) x (point_of p x z)
