use Rattle.std.proofs.Common.{rules, ◌≡◌, ◌+◌, ◌++◌, List, [], length, None, subst}
use Rattle.std.specs.Prelude.{IfOk}
use Rattle.az_ast.specs.Shapes.{first_kind, kinds_after}
use Rattle.program_grammar.specs.declared.tree.Declaration.{Declaration}
use Rattle.program_names.specs.Refusals.{declaration_kind}
use Rattle.program_names.proofs.ItemParts.{last_declared}
use Rattle.program_names.proofs.refusal.declared_fault.Goals as goal

pub returns-clause-ok : goal.returns-clause-ok
returns-clause-ok c =
    let text = c.args.text.now in
    let inputs : first_kind 1 (kinds_after (λ (e : List Declaration). declaration_kind text (([] ++ []) ++ e)) [] text.inputs) ≡ None = search rules in
    let outputs : first_kind (1 + length text.inputs) (kinds_after (λ (e : List Declaration). declaration_kind text (([] ++ text.inputs) ++ e)) [] text.outputs) ≡ None = search rules in
    let locals : IfOk c.declaration_fault-3.result (λ fault. fault ≡ first_kind (1 + length text.inputs + length text.outputs) (kinds_after (λ (e : List Declaration). declaration_kind text ((text.inputs ++ text.outputs) ++ e)) [] text.locals)) = search rules in
    subst (λ o. IfOk c.declaration_fault-3.result (λ fault. fault ≡ o)) (last_declared text inputs outputs) locals
