use Rattle.std.proofs.Common.{◌≡◌, take}
use Rattle.quick_rows.proofs.domain.quick_conjs.Given as goal

abbrev pub invariant-conjs : goal.invariant-conjs
invariant-conjs l = l.quick.items ≡ take l.conj-index l.conjs
