use Rattle.std.proofs.Common.{sym, subst, ap, ◌∙◌, Err}
use Rattle.grammar_rules.specs.Gives.{Gives}
use Rattle.grammar_rules.specs.Readers.{after, read_nothing}
use Rattle.grammar_rules.specs.Readers.Answer.{got}
use Rattle.program_grammar.specs.Values as value
use Rattle.program_grammar.specs.Readers.{read_equations}
use Rattle.program_grammar.proofs.ProgramRules.{program_after, fault_gives}
use Rattle.program_grammar.proofs.equations.program.Goals as goal

pub returns-in-Err : goal.returns-in-Err
returns-in-Err c =
    let h = c.in_ok-header.header in
    let next = c.in_ok-header.next in
    subst (Gives (Err c.in-Err.fault)) (sym (program_after c.args.cursor.budget c.args.cursor.rest.now next.rest.now h next.budget c.requires c.in_ok-header.ensures))
    (fault_gives c.in-Err.fault (read_equations 0 next.rest.now) (λ es. read_nothing (value.program h es)) c.in-Err.ensures)

pub returns-in-Ok : goal.returns-in-Ok
returns-in-Ok c =
    let h = c.in_ok-header.header in
    let next = c.in_ok-header.next in
    program_after c.args.cursor.budget c.args.cursor.rest.now next.rest.now h next.budget c.requires c.in_ok-header.ensures
    ∙ ap (λ a. after a (λ es. read_nothing (value.program h es))) c.in-Ok.ensures
    ∙ ap (λ p. got p c.in-Ok.end.rest.now c.in-Ok.end.budget) (sym c.whole.ensures)
