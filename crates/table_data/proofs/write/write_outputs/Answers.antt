use Rattle.std.proofs.Common.{◌∙◌, List, ap, arith}
use Rattle.az_ast.specs.declared.program.Variable.{Variable}
use Rattle.table_data.specs.Written.{output_lines}
use Rattle.table_data.proofs.WrittenRows.{lines_whole, written_means}
use Rattle.table_data.proofs.write.write_outputs.Goals as goal

pub returns-clause-rows : goal.returns-clause-rows
returns-clause-rows c inputs params means =
    let values = c.args.values.now in
    let vs = c.variables-variables.result.now in
    let whole = lines_whole values vs c.variables.x (output_lines values vs 0) c.variables.out.items (omega arith) c.variables.invariant in
    written_means c.args.p.now inputs params values c.from_vec.result
    (c.from_vec.ensures ∙ whole ∙ ap (λ (us : List Variable). output_lines values us 0) c.variables-variables.ensures.value) means
