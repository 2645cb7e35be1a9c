use Rattle.std.proofs.Common.{List, ℕ, sym, subst}
use Rattle.command_words.specs.declared.binding.Binding.{Binding}
use Rattle.data_commands.specs.Tables.{read_input}
use Rattle.session_state.specs.Steps.{Takes, with_value}
use Rattle.alphaz_cli.specs.Bound.{read_bound}
use Rattle.alphaz_cli.proofs.bound.read_bound.Goals as goal

pub returns-in-Table-clause-answer : goal.returns-in-Table-clause-answer
returns-in-Table-clause-answer g c =
    let p = c.args.program.now in
    let files = (g.D.Desk.seen c.args.desk.now).files in
    let settings = c.args.settings.now in
    let tables = c.args.inputs.now in
    let result = with_value c.read_input.new.inputs c.read_input.result in
    subst (λ (b : Binding). Takes (read_bound p files settings tables b) result) (sym c.in-Table.is)
    (subst (λ (n : List ℕ). Takes (read_input p files settings tables n c.in-Table.file) result) c.as_str.ensures
    (subst (λ (f : List ℕ). Takes (read_input p files settings tables c.as_str.result.now f) result) c.as_str-in-Table.ensures c.read_input.ensures.answer))
