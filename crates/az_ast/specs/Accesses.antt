-- An access that the walk found, as the number of the variable and the map.
use Rattle.std.specs.Prelude.{ℕ}
use Rattle.az_lin.specs.Affine.{AffineMap}
use Rattle.az_ast.specs.declared.walk.Access.{Access}

abbrev pub access_of : Access → ℕ × AffineMap
access_of access = (access.variable, access.map.now)
