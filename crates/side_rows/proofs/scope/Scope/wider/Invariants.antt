use Rattle.std.proofs.Common.{◌≡◌, ◌++◌, take}
use Rattle.std.specs.Prelude.{map}
use Rattle.side_rows.proofs.scope.Scope.wider.Given as goal

abbrev pub invariant-outer : goal.invariant-outer
invariant-outer l = l.names.items ≡ take l.name-index l.name-items

abbrev pub invariant-inner : goal.invariant-inner
invariant-inner l = map (λ name. name.now) l.names.items ≡ l.fn.self ++ take l.name-index l.more
