use Rattle.std.proofs.Common.{◌≡◌, ◌++◌, take}
use Rattle.rewriting.proofs.copies.push_copies.Given as goal

abbrev pub invariant-copies : goal.invariant-copies
invariant-copies g l = l.to.items ≡ l.initial.to.items ++ take l.item-index l.from
