-- A formula whose cases were counted, and are not too many.
use Rattle.std.specs.Prelude.{◌≡◌, ℕ, ◌≤◌, length}
use Rattle.formula_refute.specs.Claims.{Claim, IsOver}
use Rattle.formula_refute.specs.Cases.{cases, most_systems}

pub record IsCounted (width : ℕ) (c : Claim) (count : ℕ) : Type 0 where
  pub widths : IsOver width c
  pub count_is : count ≡ length (cases c)
  pub few : count ≤ most_systems
