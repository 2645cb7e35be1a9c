-- A writer beside other instances.
use Rattle.std.specs.Prelude.{◌≤◌, ◌<◌, ◌+◌, ◌-◌, ℕ, List, [], ◌∷◌, length}
use Rattle.az_lin.specs.Columns.{widened_domain}
use Rattle.az_ast.specs.System.{System}
use Rattle.formula_refute.specs.Claims.{Claim}
use Rattle.formula_refute.specs.Domains.{domain_claim}
use Rattle.life_sets.specs.Cells.{shared, other}
use Rattle.order_sets.specs.NotBefore.{not_before}
use Rattle.order_sets.specs.Visits.{time_rows}
use Rattle.order_sets.specs.declared.visit.Visit.{Visit}
use Rattle.target_map.specs.Kinds.{tile_sizes}
use Rattle.target_map.specs.Settings.{TargetMapping}
use Rattle.target_map.specs.Times.{domain_of}

-- the writer `y` is declared, and its columns stand behind so many
pub record IsWriter (p : System) (y width : ℕ) : Type 0 where
  pub declared : y < length p.variables
  pub params : length p.params ≤ width
  pub inside : length p.params ≤ (domain_of p y).width
  pub narrow : width + (domain_of p y).width ≤ 4096

-- it is an instance
abbrev pub writer_domain : System → ℕ → ℕ → Claim
writer_domain p width y = domain_claim (widened_domain (length p.params) (width - length p.params) (domain_of p y))

module _ (p : System) (m : TargetMapping) where
  -- the first stores into the cell of the second, which is another, and isn't before it
  abbrev pub stores_into : Visit → Visit → List Claim
  stores_into writer visit = shared m writer visit ∷ other p writer visit ∷ not_before (tile_sizes m.kinds) (time_rows m writer) (time_rows m visit) ∷ []

  -- the first isn't the reader, and doesn't come after it
  abbrev pub comes_before : Visit → Visit → List Claim
  comes_before writer reader = other p writer reader ∷ not_before (tile_sizes m.kinds) (time_rows m reader) (time_rows m writer) ∷ []
