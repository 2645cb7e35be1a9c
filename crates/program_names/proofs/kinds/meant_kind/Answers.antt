use Rattle.std.proofs.Common.{rules, ◌≡◌, false, sym}
use Rattle.std.specs.List.{list_any}
use Rattle.std.specs.Str.{bytes_eq}
use Rattle.az_ast.specs.declared.fault.ShapeKind.TheVariants.{Arity, InputEquation, TwoEquations, BadReduce}
use Rattle.program_names.specs.Pieces.{equation_pieces}
use Rattle.program_names.specs.Refusals.{is_other_arity, is_bad_operator}
use Rattle.program_names.proofs.FirstRows.{no-hit}
use Rattle.program_names.proofs.kinds.meant_kind.Goals as goal

pub returns-clause-ok : goal.returns-clause-ok
returns-clause-ok c =
    let text = c.args.text.now in
    let ps = equation_pieces text.params c.args.equation.now in
    let inputs = list_any (λ input. bytes_eq input.name c.args.equation.now.variable) text.inputs in
    let others = list_any (λ other. bytes_eq other.variable c.args.equation.now.variable) c.args.earlier.now in
    let t0 : list_any (is_other_arity text) ps ≡ false = search rules in
    let t1 : inputs ≡ false = search rules in
    let t2 : others ≡ false = search rules in
    let t3 : list_any is_bad_operator ps ≡ false = search rules in
    sym (no-hit (list_any (is_other_arity text) ps) inputs others (list_any is_bad_operator ps) Arity InputEquation TwoEquations BadReduce t0 t1 t2 t3)
