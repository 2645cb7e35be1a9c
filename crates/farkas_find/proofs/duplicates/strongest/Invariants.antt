use Rattle.std.proofs.Common.{◌≡◌}
use Rattle.farkas_find.proofs.Kept.{flagged}
use Rattle.farkas_find.proofs.duplicates.strongest.Given as goal

-- the flagged rows so far
abbrev pub invariant-rows : goal.invariant-rows
invariant-rows l = l.left.items ≡ flagged l.yielded
