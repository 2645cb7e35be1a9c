-- What a read asks of time: the point that is read is before the instance that reads it.
--
-- The points of a read have the parameters, the reader's indices and the extra indices of the reductions around
-- the read.
use Rattle.std.specs.Prelude.{ℕ, ℤ, List, ◌++◌, length, take}
use Rattle.az_lin.specs.Affine.{image_of}
use Rattle.az_ast.specs.Certified.{IsInContext}
use Rattle.az_ast.specs.System.{System}
use Rattle.expr_places.specs.Reads.{ReadPlace}
use Rattle.target_map.specs.Settings.{TargetMapping}
use Rattle.target_map.specs.Times.{domain_of, IsBefore}

-- the point that is read, and the one of the reader
abbrev pub point_read : System → ReadPlace → List ℤ → List ℤ
point_read p read z = take (length p.params) z ++ image_of read.map z

abbrev pub point_of : System → ℕ → List ℤ → List ℤ
point_of p x z = take (domain_of p x).width z

-- where it fails for a read of the equation of `x`
pub record ReadsTooEarly (p : System) (m : TargetMapping) (x : ℕ) (read : ReadPlace) (z : List ℤ) : Type 0 where
  pub in_force : IsInContext read.scope.domains z
  pub not_before : ¬ IsBefore m read.variable (point_read p read z) x (point_of p x z)
