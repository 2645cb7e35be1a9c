use Rattle.std.proofs.Common.{◌≡◌, map, reverse}
use Rattle.std.specs.FinMap.{from_entries}
use Rattle.std.specs.Ordering.{nat_cmp}
use Rattle.target_map.proofs.by_variable.copied_storages.Given as goal

-- the values that were yielded, of which an earlier key stands in front
abbrev pub invariant-settings : goal.invariant-settings
invariant-settings l = from_entries {R = nat_cmp} l.copies.entries ≡ from_entries (reverse (map (λ e. (e.0.now, e.1.now)) l.yielded))
