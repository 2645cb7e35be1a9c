use Rattle.std.proofs.Common.{◌≡◌, ◌++◌, take, map}
use Rattle.az_poly.specs.Operations.{both}
use Rattle.az_poly.proofs.intersection.push_meets.Given as goal

abbrev pub invariant-seconds : goal.invariant-seconds
invariant-seconds l = l.met.items ≡ l.initial.met.items ++ map (λ second. both l.first second) (take l.second-index l.seconds)
