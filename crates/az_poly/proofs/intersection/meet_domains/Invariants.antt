use Rattle.std.proofs.Common.{◌≡◌, take, map}
use Rattle.std.specs.List.{flat_map}
use Rattle.az_poly.specs.Operations.{both}
use Rattle.az_poly.proofs.intersection.meet_domains.Given as goal

abbrev pub invariant-firsts : goal.invariant-firsts
invariant-firsts l = l.met.items ≡ flat_map (λ first. map (λ second. both first second) l.seconds) (take l.first-index l.first-items)
