use Rattle.std.proofs.Common.{◌≡◌, take}
use Rattle.formula_refute.specs.Claims.{claim}
use Rattle.formula_refute.specs.Cases.{systems}
use Rattle.formula_refute.proofs.systems.made_cases.Given as goal

abbrev pub invariant-cases : goal.invariant-cases
invariant-cases l = l.systems.items ≡ take l.number (systems l.width (claim l.f))
