use Rattle.az_ast.specs.Term.{term}
use Rattle.expr_maps.proofs.BranchSteps.{EachAccess-all}
use Rattle.expr_maps.specs.Answers.{EachAccess}
use Rattle.expr_maps.specs.Replaced.{replaced}
use Rattle.rewriting.proofs.EquationSteps.{equation-fault}
use Rattle.rewriting.specs.Definitions.{definition_of}
use Rattle.inline_eqs.specs.Removal.{renumbered, definition_without}
use Rattle.inline_eqs.proofs.removal.RemovalEquationChange.at.Goals as goal

pub replace_accesses-requires : goal.replace_accesses-requires
replace_accesses-requires c = EachAccess-all (λ x f. Unit {0}) (λ x f. tt) (term c.args.equation.now.body)

pub returns-in_err-body : goal.returns-in_err-body
returns-in_err-body c =
    let gone = c.args.self.now.gone in
    let e = term c.args.equation.now.body in
    equation-fault (replaced (renumbered gone) e) (definition_without gone (definition_of c.args.equation.now)) (EachAccess (λ x f. Unit {0}) e) (Unit {0}) c.in_err-body.field-0.0 c.from_residual.result
    (λ t. EachAccess-all (λ x f. Unit {0}) (λ x f. tt) e) c.in_err-body.ensures c.from_residual.ensures.1
