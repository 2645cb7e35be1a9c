use Rattle.std.proofs.Common.{◌≡◌, sym, subst, Err}
use Rattle.az_text.specs.declared.mark.MarkKind.TheVariants.{Semicolon}
use Rattle.grammar_rules.specs.Gives.{Gives}
use Rattle.grammar_rules.specs.Readers.{read_nothing}
use Rattle.grammar_rules.specs.Readers.Answer.{got}
use Rattle.program_grammar.specs.Grammar.{weight_of_end}
use Rattle.program_grammar.specs.Words.{read_mark}
use Rattle.program_grammar.specs.Readers.{read_equation_body}
use Rattle.program_grammar.proofs.ProgramRules.{equation_after, fault_passes}
use Rattle.program_grammar.proofs.equations.equation.Goals as goal

-- the semicolon isn't there, or there were too many nodes before it
pub returns : goal.returns
returns c =
    let e = c.in_ok-equation.equation in
    let end = c.in_ok-equation.end in
    let body : read_equation_body 1025 1024 c.args.cursor.rest.now ≡ got e end.rest.now end.budget = rw (c.limited-start.ensures.budget, c.limited-start.ensures.rest) at c.in_ok-equation.ensures in
    subst (Gives (Err c.in-Err.fault)) (sym (equation_after c.args.cursor.rest.now end.rest.now e end.budget body))
    (fault_passes c.in-Err.fault (read_mark Semicolon (weight_of_end e.body) 0 end.rest.now) (λ x. read_nothing e) c.in-Err.ensures)
