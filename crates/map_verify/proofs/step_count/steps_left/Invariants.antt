use Rattle.std.proofs.Common.{◌≡◌, ◌+◌, take}
use Rattle.map_verify.specs.Verdicts.{steps_in}
use Rattle.map_verify.proofs.step_count.steps_left.Given as goal

abbrev pub invariant-derivations : goal.invariant-derivations
invariant-derivations l = l.left + steps_in (take l.number l.derivations) ≡ l.count
