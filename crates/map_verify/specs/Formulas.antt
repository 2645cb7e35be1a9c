-- The formulas of a mapping, in order, and what is looked at before any case: that all rows are in range, and then
-- that no formula has too many cases.
use Rattle.std.specs.Prelude.{ℕ, ◌≤◌, List, ◌++◌, length, All}
use Rattle.az_lin.specs.Affine.{Affine, Polyhedron}
use Rattle.az_ast.specs.System.{System}
use Rattle.formula_refute.specs.Cases.{cases, systems, most_systems}
use Rattle.life_sets.specs.Fits.{FitsLifetimes}
use Rattle.life_sets.specs.Lifetimes.{lifetimes}
use Rattle.order_sets.specs.Orders.{StatedClaim, dependences}
use Rattle.order_sets.specs.Stated.{FitsOrders}
use Rattle.target_map.specs.Settings.{TargetMapping}

-- the cases of a formula, as lists of rows and as systems
abbrev pub cases_of : StatedClaim → List (List Affine)
cases_of stated = cases stated.claim

abbrev pub systems_of : StatedClaim → List Polyhedron
systems_of stated = systems stated.width stated.claim

abbrev pub HasFewCases : StatedClaim → Type 0
HasFewCases stated = length (cases_of stated) ≤ most_systems

module _ (p : System) (m : TargetMapping) where
  -- first the dependences, then the lifetimes
  abbrev pub formulas : List StatedClaim
  formulas = dependences p m ++ lifetimes p m

  -- all rows composed, and all that are made of composed ones, are in range
  abbrev pub AreInRange : Type 0
  AreInRange = FitsOrders p m × FitsLifetimes p m

  abbrev pub AreFew : Type 0
  AreFew = All HasFewCases formulas

  pub record AreReady : Type 0 where
    pub in_range : AreInRange
    pub few : AreFew
