use Rattle.std.proofs.Common.{ℕ, List, subst}
use Rattle.az_text.specs.declared.token.Token.{Token}
use Rattle.grammar_rules.specs.Gives.{Concludes, IsReadBy}
use Rattle.grammar_rules.specs.Whole.{verdict}
use Rattle.grammar_rules.proofs.ReadBy.{read_by}
use Rattle.script_grammar.specs.Grammar.{script}
use Rattle.script_grammar.specs.Readers.{read_script}
use Rattle.script_grammar.proofs.ScriptRules.{script_verdict}
use Rattle.script_grammar.proofs.script.read_tokens.Goals as goal

pub returns : goal.returns
returns c =
    subst (λ (ts : List Token). IsReadBy script 0 ts c.finish.result) c.new.ensures.rest
    (read_by script 0 c.new.result.rest.now (verdict (read_script 0 c.new.result.rest.now)) c.finish.result (script_verdict c.new.result.rest.now)
    (subst (λ (b : ℕ). Concludes c.finish.result (verdict (read_script b c.new.result.rest.now))) c.new.ensures.budget
    (c.finish.ensures.answer (read_script c.new.result.budget c.new.result.rest.now) c.script.ensures)))
