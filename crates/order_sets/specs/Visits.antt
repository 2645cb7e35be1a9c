-- The instances that a formula speaks of: a variable with a map from the formula's columns to its point, and the
-- rows that give its coordinates in time there.
use Rattle.std.specs.Prelude.{ℕ, [], length, replicate, pos}
use Rattle.az_lin.specs.Affine.{Affine, AffineMap}
use Rattle.az_lin.specs.Columns.{reading, extended}
use Rattle.az_lin.specs.Substitution.{composed_map}
use Rattle.az_ast.specs.System.{System}
use Rattle.expr_places.specs.Reads.{ReadPlace}
use Rattle.order_sets.specs.declared.visit.Visit.{Visit}
use Rattle.target_map.specs.Settings.{TargetMapping, order_number}
use Rattle.target_map.specs.Stamps.{Stamp, stamp}
use Rattle.target_map.specs.Times.{time_of, domain_of, indices_of}

abbrev pub no_rows : ℕ → AffineMap
no_rows width = record { width = width; rows = [] }

-- the point that is read
abbrev pub read_visit : System → ReadPlace → Visit
read_visit p read = record { variable = read.variable; at = reading (length p.params) read.map }

-- the instance whose point has the first columns
abbrev pub own_visit : System → ℕ → ℕ → Visit
own_visit p x width = record { variable = x; at = reading (domain_of p x).width (no_rows width) }

-- the instance that has the parameters and the indices behind so many columns
abbrev pub writer_visit : System → ℕ → ℕ → Visit
writer_visit p y width = record { variable = y; at = reading (length p.params) (extended (indices_of p y) (no_rows width)) }

-- the row of a number
abbrev pub number_row : ℕ → ℕ → Affine
number_row width number = record { coefs = replicate width (pos 0); konst = pos number }

-- the coordinates in time
abbrev pub time_map : TargetMapping → Visit → AffineMap
time_map m visit = composed_map (time_of m visit.variable) visit.at

abbrev pub time_rows : TargetMapping → Visit → Stamp Affine
time_rows m visit = stamp m.kinds (number_row visit.at.width (order_number m.statements visit.variable)) (time_map m visit).rows
