use Rattle.std.proofs.Common.{ℕ, List, subst}
use Rattle.az_text.specs.declared.token.Token.{Token}
use Rattle.grammar_rules.specs.Gives.{Concludes, IsReadBy}
use Rattle.grammar_rules.specs.Whole.{verdict}
use Rattle.grammar_rules.proofs.ReadBy.{read_by}
use Rattle.program_grammar.specs.Grammar.{program}
use Rattle.program_grammar.specs.Readers.{read_program}
use Rattle.program_grammar.proofs.ProgramRules.{program_verdict}
use Rattle.program_grammar.proofs.equations.read_tokens.Goals as goal

pub returns : goal.returns
returns c =
    subst (λ (ts : List Token). IsReadBy program 0 ts c.finish.result) c.new.ensures.rest
    (read_by program 0 c.new.result.rest.now (verdict (read_program 0 c.new.result.rest.now)) c.finish.result (program_verdict c.new.result.rest.now)
    (subst (λ (b : ℕ). Concludes c.finish.result (verdict (read_program b c.new.result.rest.now))) c.new.ensures.budget
    (c.finish.ensures.answer (read_program c.new.result.budget c.new.result.rest.now) c.program.ensures)))
