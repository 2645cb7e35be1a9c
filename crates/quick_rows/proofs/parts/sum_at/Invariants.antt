use Rattle.std.proofs.Common.{◌+ℤ◌}
use Rattle.quick_rows.specs.Parts.{parts_at}
use Rattle.quick_rows.proofs.Sums.{IsSumTo}
use Rattle.quick_rows.proofs.parts.sum_at.Given as goal

-- what is added so far and what is left to add make the whole sum
abbrev pub invariant-parts : goal.invariant-parts
invariant-parts l = IsSumTo l.parts l.z l.part-index (parts_at l.parts l.z +ℤ l.konst) l.sum
