use Rattle.std.proofs.Common.{◌≡◌, take}
use Rattle.std.specs.Prelude.{fold}
use Rattle.loop_scan.specs.Nest.Levels.{narrowed_at}
use Rattle.loop_scan.proofs.level.Level.range_at.Given as goal

abbrev pub invariant-bounds : goal.invariant-bounds
invariant-bounds l = l.range ≡ fold (narrowed_at l.before) l.self.range (take l.bound-index l.self.bounds.items)
