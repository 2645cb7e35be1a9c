use Rattle.std.proofs.Common.{◌≡◌, take}
use Rattle.az_lin.proofs.list.ListTryCopy.copy.Given as goal

abbrev pub invariant-items : goal.invariant-items
invariant-items g l = l.items.items ≡ take l.item-index l.self
