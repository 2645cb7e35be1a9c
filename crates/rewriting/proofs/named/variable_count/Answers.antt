use Rattle.std.proofs.Common.{arith, ap, length}
use Rattle.az_ast.proofs.ProgramLaws.{few_parts}
use Rattle.rewriting.proofs.named.variable_count.Goals as goal

pub returns-clause-few : goal.returns-clause-few
returns-clause-few c =
    let bound = (few_parts c.args.program.now c.variables.ensures.rules).0 in
    omega (arith, bound, ap (λ vs. length vs) c.variables.ensures.value)
