use Rattle.std.proofs.Common.{◌≡◌, map, reverse}
use Rattle.std.specs.FinMap.{from_entries}
use Rattle.std.specs.Ordering.{nat_cmp}
use Rattle.az_ast.proofs.inputs.TableMap.copy.Given as goal

-- the tables that were yielded, of which an earlier key stands in front
abbrev pub invariant-tables : goal.invariant-tables
invariant-tables l = from_entries {R = nat_cmp} l.copies.entries ≡ from_entries (reverse (map (λ e. (e.0.now, e.1.now)) l.yielded))
