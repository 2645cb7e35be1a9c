-- An answer is the only one: where two calls are given the same, they answer the same, unless memory runs out for one.
use Rattle.std.specs.Prelude.{◌≡◌, ◌≢◌, Result, Err}
use Rattle.farkas_find.specs.declared.verdict.Decision.{Decision}
use Rattle.farkas_find.specs.declared.left.Left.{Left}
use Rattle.farkas_find.specs.declared.fault.FindFault.{FindFault}
use Rattle.farkas_find.specs.declared.fault.FindFault.TheVariants.{Memory}

abbrev pub Verdict : Type 0
Verdict = Result Decision FindFault

abbrev pub LeftOver : Type 0
LeftOver = Result Left FindFault

abbrev pub Agrees : {A : Type 0} → Result A FindFault → Result A FindFault → Type 0
Agrees one other = one ≢ Err Memory → other ≢ Err Memory → one ≡ other
