use Rattle.std.proofs.Common.{◌≡◌, ◌+◌, ◌++◌, List, []}
use Rattle.az_ast.specs.Shapes.{kinds_after, first_kind}
use Rattle.az_ast.proofs.ItemSteps.{kinds_from}
use Rattle.program_grammar.specs.declared.tree.Declaration.{Declaration}
use Rattle.program_names.specs.Refusals.{declaration_kind}
use Rattle.program_names.proofs.faults.declaration_fault.Given as goal

abbrev pub invariant-items : goal.invariant-items
invariant-items l =
    first_kind (l.item + l.place) (kinds_from (λ (earlier : List Declaration). declaration_kind l.text ((l.first ++ l.second) ++ earlier)) l.declarations l.place)
    ≡ first_kind l.item (kinds_after (λ (earlier : List Declaration). declaration_kind l.text ((l.first ++ l.second) ++ earlier)) [] l.declarations)
