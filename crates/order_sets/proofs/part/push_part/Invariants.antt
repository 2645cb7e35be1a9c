use Rattle.std.proofs.Common.{◌≡◌, ◌++◌, take}
use Rattle.order_sets.specs.Rows.{is_in_part}
use Rattle.target_map.specs.Stamps.{part}
use Rattle.order_sets.proofs.part.push_part.Given as goal

abbrev pub invariant-kinds : goal.invariant-kinds
invariant-kinds l = l.picked.items ≡ l.initial.picked.items ++ part (is_in_part l.which) (take l.place l.kinds) (take l.place l.rows)
