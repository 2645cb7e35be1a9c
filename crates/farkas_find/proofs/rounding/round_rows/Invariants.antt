use Rattle.std.proofs.Common.{◌≡◌, ◌+◌, ◌++◌, length}
use Rattle.farkas_find.specs.Tidying.{rounded_rows, rounding_steps}
use Rattle.farkas_find.proofs.rounding.round_rows.Given as goal

-- the rows so far are rounded, and their steps stand behind those that were there
abbrev pub invariant-rows : goal.invariant-rows
invariant-rows l = record {
  done : l.done.items ≡ rounded_rows l.next l.yielded;
  steps : l.steps.items ≡ l.fn.steps.items ++ rounding_steps l.yielded;
  number : l.number ≡ l.next + length (rounding_steps l.yielded);
}
