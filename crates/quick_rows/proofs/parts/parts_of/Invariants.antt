use Rattle.quick_rows.proofs.Sums.{AreFirst}
use Rattle.quick_rows.proofs.parts.parts_of.Given as goal

-- the parts so far have the sum of the columns so far
abbrev pub invariant-columns : goal.invariant-columns
invariant-columns l = AreFirst l.coefs l.column l.parts.items
