use Rattle.std.proofs.Common.{◌≡◌, ◌++◌, take}
use Rattle.std.specs.Prelude.{map}
use Rattle.program_grammar.specs.declared.tree.Declaration.{Declaration}
use Rattle.program_names.proofs.variables.with_names.Given as goal

abbrev pub invariant-items : goal.invariant-items
invariant-items l = l.more ≡ l.fn.names ++ map (λ (d : Declaration). d.name) (take l.declaration-index l.declarations)
