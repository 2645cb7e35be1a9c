-- The formulas of the dependences, in order: for each read of each equation, true where what is in force there is
-- and the point that is read isn't before the reader.
use Rattle.std.specs.Prelude.{ℕ, suc, List, [], ◌∷◌}
use Rattle.std.specs.List.{flat_map}
use Rattle.az_ast.specs.System.{System}
use Rattle.domain_check.specs.Context.{in_force}
use Rattle.expr_places.specs.Reads.{ReadPlace, reads_of}
use Rattle.formula_refute.specs.Claims.{Claim}
use Rattle.order_sets.specs.NotBefore.{not_before}
use Rattle.order_sets.specs.Visits.{read_visit, own_visit, time_rows}
use Rattle.target_map.specs.Kinds.{tile_sizes}
use Rattle.target_map.specs.Settings.{TargetMapping}
use Rattle.target_map.specs.declared.which.Which.{Which}
use Rattle.target_map.specs.declared.which.Which.TheVariants.{Order}

-- a formula by its name, over so many columns
pub record StatedClaim : Type 0 where
  pub which : Which
  pub width : ℕ
  pub claim : Claim

module _ (p : System) (m : TargetMapping) where
  abbrev pub order_claim : ℕ → ReadPlace → Claim
  order_claim x read =
      let read_rows = time_rows m (read_visit p read) in
      let own_rows = time_rows m (own_visit p x read.scope.width) in
      in_force read.scope (not_before (tile_sizes m.kinds) read_rows own_rows ∷ [])

  abbrev pub order_of : ℕ → ℕ → ReadPlace → StatedClaim
  order_of x number read = record { which = Order x number; width = read.scope.width; claim = order_claim x read }

  -- the reads from one with this number on
  abbrev pub orders_from : ℕ → ℕ → List ReadPlace → List StatedClaim
  orders_from x number [] = []
  orders_from x number (read ∷ reads) = order_of x number read ∷ orders_from x (suc number) reads

  abbrev pub dependences : List StatedClaim
  dependences = flat_map (λ equation. orders_from equation.variable 0 (reads_of p equation)) p.equations
