-- What the cases of some formulas come to.
use Rattle.std.specs.Prelude.{◌≡◌, ℕ, ◌≤◌, List, Result, Ok, Err, ◌⊎◌}
use Rattle.std.specs.List.{AllZip}
use Rattle.az_lin.specs.declared.limit.Limit.TheVariants.{Steps, Rows as TooManyRows}
use Rattle.formula_refute.specs.declared.front.Stop.TheVariants as stop
use Rattle.map_verify.specs.Verdicts.{IsRefutedAs, StopsAt, TakesManySteps, steps_of, most_steps}
use Rattle.map_verify.specs.declared.decided.Outcome.{Outcome}
use Rattle.map_verify.specs.declared.decided.Outcome.TheVariants.{Refuted, Open}
use Rattle.map_verify.specs.declared.fault.VerifyFault.{VerifyFault}
use Rattle.map_verify.specs.declared.fault.VerifyFault.TheVariants.{Overflow, Entry, Limit, Memory}
use Rattle.order_sets.specs.Orders.{StatedClaim}
use Rattle.target_map.specs.declared.which.Which.{Which}

abbrev pub Decides : List StatedClaim → Result Outcome VerifyFault → Type 0
Decides all (Ok (Refuted proved)) = AllZip IsRefutedAs all proved × (steps_of proved ≤ most_steps)
Decides all (Ok (Open which case_no point)) = StopsAt all which case_no (stop.Point point)
Decides all (Err (Overflow which case_no)) = StopsAt all which case_no stop.Overflow
Decides all (Err Entry) = ⊥
Decides all (Err (Limit limit)) =
    ((limit ≡ TooManyRows) × ((which : Which) × ((case_no : ℕ) × StopsAt all which case_no stop.Rows)))
    ⊎ ((limit ≡ Steps) × TakesManySteps all)
Decides all (Err Memory) = Unit {0}
