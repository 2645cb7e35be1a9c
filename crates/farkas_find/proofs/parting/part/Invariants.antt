use Rattle.std.proofs.Common.{◌≡◌}
use Rattle.farkas_find.specs.Stages.{rows_without, rows_with}
use Rattle.farkas_find.proofs.parting.part.Given as goal

-- the rows so far are parted
abbrev pub invariant-rows : goal.invariant-rows
invariant-rows l = record {
  kept : l.kept.items ≡ rows_without l.column l.yielded;
  used : l.used.items ≡ rows_with l.column l.yielded;
}
