use Rattle.std.proofs.Common.{List, sym, subst}
use Rattle.std.specs.Prelude.{◌≤◌, slice_get, MatchOption}
use Rattle.az_ast.specs.declared.program.Variable.{Variable}
use Rattle.change_basis.proofs.Assembled.{can-change, is-placed, is-shaped, is-given, is-kept}
use Rattle.change_basis.proofs.BasisGiven.{moved-narrow}
use Rattle.change_basis.proofs.rebasing.rebased.Goals as goal

pub moved_variables-requires-clause-narrow : goal.moved_variables-requires-clause-narrow
moved_variables-requires-clause-narrow c =
    subst (λ (vs : List Variable). MatchOption (slice_get vs c.args.target) ⊥ (λ (variable : Variable). variable.domain.width ≤ 64)) (sym c.variables.ensures.value)
    (moved-narrow c.args.program.now c.requires.program c.args.target c.args.basis.now c.requires.free c.args.inverse.now c.requires.undone)

pub changed_equations-requires : goal.changed_equations-requires
changed_equations-requires c =
    can-change c.args.program.now c.requires.program c.args.target c.args.basis.now c.requires.free c.args.inverse.now c.requires.undone
    c.params-params.result.now c.variables.result.now c.equations.result.now c.params-params.ensures c.variables.ensures.value c.equations.ensures.value

pub changed_program-requires-clause-placed : goal.changed_program-requires-clause-placed
changed_program-requires-clause-placed c =
    is-placed c.args.program.now c.requires.program c.args.target c.args.basis.now c.requires.free c.args.inverse.now c.requires.undone
    c.params-params.result.now c.variables.result.now c.equations.result.now c.params-params.ensures c.variables.ensures.value c.equations.ensures.value
    c.in_ok-variables.variables c.in_ok-equations.equations c.in_ok-variables.ensures c.in_ok-equations.ensures

pub changed_program-requires-clause-shaped : goal.changed_program-requires-clause-shaped
changed_program-requires-clause-shaped c =
    is-shaped c.args.program.now c.requires.program c.args.target c.args.basis.now c.requires.free c.args.inverse.now c.requires.undone
    c.params-params.result.now c.variables.result.now c.equations.result.now c.params-params.ensures c.variables.ensures.value c.equations.ensures.value
    c.in_ok-variables.variables c.in_ok-equations.equations c.in_ok-variables.ensures c.in_ok-equations.ensures

pub returns-clause-answer : goal.returns-clause-answer
returns-clause-answer c =
    is-given c.args.program.now c.requires.program c.args.target c.args.basis.now c.requires.free c.args.inverse.now c.requires.undone
    c.params-params.result.now c.variables.result.now c.equations.result.now c.params-params.ensures c.variables.ensures.value c.equations.ensures.value
    c.in_ok-variables.variables c.in_ok-equations.equations c.in_ok-variables.ensures c.in_ok-equations.ensures c.changed_program.result c.changed_program.ensures

pub returns-clause-meaning : goal.returns-clause-meaning
returns-clause-meaning c =
    is-kept c.args.program.now c.requires.program c.args.target c.args.basis.now c.requires.free c.args.inverse.now c.requires.undone
    c.params-params.result.now c.variables.result.now c.equations.result.now c.params-params.ensures c.variables.ensures.value c.equations.ensures.value
    c.in_ok-variables.variables c.in_ok-equations.equations c.in_ok-variables.ensures c.in_ok-equations.ensures c.changed_program.result c.changed_program.ensures
