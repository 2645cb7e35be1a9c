use Rattle.std.proofs.Common.{◌∙◌, List, ap, map}
use Rattle.std.specs.Prelude.{filter_map}
use Rattle.az_ast.specs.System.{System}
use Rattle.az_ast.specs.declared.program.Equation.{Equation}
use Rattle.rewriting.proofs.Answered.{assembled, assembled-placed, assembled-shaped, given, of_given}
use Rattle.rewriting.specs.Definitions.{definition_of, definitions, with_equations}
use Rattle.rewriting.specs.Promise.{KeepsMeaning}
use Rattle.inline_eqs.specs.Removal.{definition_without, variables_without, without, moves_up}
use Rattle.inline_eqs.proofs.RemovalGiven.{given-fine, given-keeps}
use Rattle.inline_eqs.proofs.removal.without.Goals as goal

pub changed_program-requires-clause-placed : goal.changed_program-requires-clause-placed
changed_program-requires-clause-placed c =
    let p = c.args.program.now in
    let gone = c.args.gone in
    assembled-placed p c.requires.program c.in_ok-variables.variables (variables_without gone p.variables) c.in_ok-equations.equations (filter_map (definition_without gone) (definitions p))
    (c.in_ok-variables.ensures.ok ∙ ap (variables_without gone) c.variables.ensures.value)
    (c.in_ok-equations.ensures.0 ∙ ap (λ (es : List Equation). filter_map (definition_without gone) (map definition_of es)) c.equations.ensures.value)
    (given-fine p c.requires.program gone c.requires.free)

pub changed_program-requires-clause-shaped : goal.changed_program-requires-clause-shaped
changed_program-requires-clause-shaped c =
    let p = c.args.program.now in
    let gone = c.args.gone in
    assembled-shaped p c.requires.program c.in_ok-variables.variables (variables_without gone p.variables) c.in_ok-equations.equations (filter_map (definition_without gone) (definitions p))
    (c.in_ok-variables.ensures.ok ∙ ap (variables_without gone) c.variables.ensures.value)
    (c.in_ok-equations.ensures.0 ∙ ap (λ (es : List Equation). filter_map (definition_without gone) (map definition_of es)) c.equations.ensures.value)
    (given-fine p c.requires.program gone c.requires.free)

pub returns-clause-answer : goal.returns-clause-answer
returns-clause-answer c =
    let p = c.args.program.now in
    let gone = c.args.gone in
    given (Unit {0}) (without p gone) (with_equations p c.in_ok-variables.variables c.in_ok-equations.equations) c.changed_program.result
    (assembled p c.in_ok-variables.variables (variables_without gone p.variables) c.in_ok-equations.equations (filter_map (definition_without gone) (definitions p))
    (c.in_ok-variables.ensures.ok ∙ ap (variables_without gone) c.variables.ensures.value)
    (c.in_ok-equations.ensures.0 ∙ ap (λ (es : List Equation). filter_map (definition_without gone) (map definition_of es)) c.equations.ensures.value))
    tt c.changed_program.ensures

pub returns-clause-meaning : goal.returns-clause-meaning
returns-clause-meaning c =
    let p = c.args.program.now in
    let gone = c.args.gone in
    of_given (Unit {0}) (without p gone) (λ (q : System). KeepsMeaning p q (moves_up gone)) c.changed_program.result (given-keeps p c.requires.program gone c.requires.free)
    (given (Unit {0}) (without p gone) (with_equations p c.in_ok-variables.variables c.in_ok-equations.equations) c.changed_program.result
    (assembled p c.in_ok-variables.variables (variables_without gone p.variables) c.in_ok-equations.equations (filter_map (definition_without gone) (definitions p))
    (c.in_ok-variables.ensures.ok ∙ ap (variables_without gone) c.variables.ensures.value)
    (c.in_ok-equations.ensures.0 ∙ ap (λ (es : List Equation). filter_map (definition_without gone) (map definition_of es)) c.equations.ensures.value))
    tt c.changed_program.ensures)
