-- At most one answer fits a text, but that memory ran out.
use Rattle.std.proofs.Common.{◌≡◌, ℕ, List, Ok, Err, refl, sym, ap, subst, ◌∙◌}
use Rattle.std.specs.Prelude.{Option, Some, None, Result}
use Rattle.az_lin.specs.declared.limit.Limit.{Limit as LimitName}
use Rattle.grammar_rules.proofs.TextReadings.{one_reading}
use Rattle.grammar_rules.specs.declared.fault.TextFault.{TextFault}
use Rattle.grammar_rules.specs.declared.fault.TextFault.TheVariants as text
use Rattle.script_grammar.specs.declared.command.Command.{Command}
use Rattle.script_grammar.specs.Grammar.{script}
use Rattle.script_grammar.specs.Readings.{IsReadingOf}
use Rattle.script_grammar.proofs.LawProofs.{no_script_is_heavy}
use Rattle.command_script.specs.Answers.{IsAnswerOf}
use Rattle.command_script.specs.Limits.{limit_of}
use Rattle.command_script.specs.declared.fault.ScriptFault.{ScriptFault}
use Rattle.command_script.specs.declared.fault.ScriptFault.TheVariants.{Lex, Syntax, Limit, Memory}

-- the answer of a reading, which is never that the text is too heavy
abbrev limited : Option LimitName → List Command → Result (List Command) ScriptFault
limited (Some limit) commands = Err (Limit limit)
limited None commands = Ok commands

abbrev outcome : Result (List Command) TextFault → Result (List Command) ScriptFault
outcome (Ok commands) = limited (limit_of commands) commands
outcome (Err (text.Lex fault)) = Err (Lex fault)
outcome (Err (text.Syntax place)) = Err (Syntax place)
outcome (Err text.Size) = Err Memory
outcome (Err text.Memory) = Err Memory

record HasReading (bytes : List ℕ) (answer : Result (List Command) ScriptFault) : Type 0 where
  reading : Result (List Command) TextFault
  is : IsReadingOf bytes reading
  no_memory : reading ≡ Err text.Memory → ⊥
  gives : answer ≡ outcome reading

has_reading : (bytes : List ℕ) (answer : Result (List Command) ScriptFault) → IsAnswerOf bytes answer → (answer ≡ Err Memory → ⊥) → HasReading bytes answer
has_reading bytes (Ok commands) is differs = record {
  reading = Ok commands;
  is = is.read;
  no_memory = λ e. cc;
  gives = subst (λ (o : Option LimitName). Ok commands ≡ limited o commands) (sym is.within) refl;
}
has_reading bytes (Err (Lex fault)) is differs = record { reading = Err (text.Lex fault); is = is; no_memory = λ e. cc; gives = refl }
has_reading bytes (Err (Syntax place)) is differs = record { reading = Err (text.Syntax place); is = is; no_memory = λ e. cc; gives = refl }
has_reading bytes (Err (Limit limit)) is differs = record {
  reading = Ok is.commands;
  is = is.read;
  no_memory = λ e. cc;
  gives = subst (λ (o : Option LimitName). Err (Limit limit) ≡ limited o is.commands) (sym is.over) refl;
}
has_reading bytes (Err Memory) is differs = absurd (differs refl)

pub one_answer : (bytes : List ℕ) (one other : Result (List Command) ScriptFault) → IsAnswerOf bytes one → IsAnswerOf bytes other → (one ≡ Err Memory → ⊥) → (other ≡ Err Memory → ⊥) → one ≡ other
one_answer bytes one other is is' m n =
    let first = has_reading bytes one is m in
    let second = has_reading bytes other is' n in
    first.gives ∙ (ap outcome (one_reading script 0 bytes first.reading second.reading first.is second.is first.no_memory second.no_memory) ∙ sym second.gives)

-- no reading is that a text is too heavy
pub not_heavy : (bytes : List ℕ) → IsReadingOf bytes (Err text.Size) → ⊥
not_heavy bytes is = no_script_is_heavy is.0 is.2
