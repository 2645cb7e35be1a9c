-- A text says one list of commands, or is refused, and not both; a run stops at one place.
use Rattle.std.proofs.Common.{◌≡◌, ℕ, List}
use Rattle.std.specs.Prelude.{Some, Ok, Err}
use Rattle.command_script.proofs.Once.{one_answer}
use Rattle.command_script.specs.Answers.{IsAnswerOf}
use Rattle.command_script.specs.declared.fault.ScriptFault.{ScriptFault}
use Rattle.command_script.specs.declared.fault.ScriptFault.TheVariants as fault
use Rattle.script_files.specs.Commands.{script_refusal, commands_in}
use Rattle.session_state.proofs.Once.{IsOne, NotBoth}

module _ (file text : List ℕ) where
  pub one_in : IsOne (commands_in file text)
  one_in x y h k = let same : Ok x ≡ Ok y = one_answer text (Ok x) (Ok y) h k (λ e. cc) (λ e. cc) in cc

  pub not_both_in : NotBoth (commands_in file text)
  not_both_in commands refusal h (why, refused, is) = by why refused is
    where
      by : (why : ScriptFault) → IsAnswerOf text (Err why) → script_refusal file why ≡ Some refusal → ⊥
      by fault.Memory refused is = cc
      by (fault.Lex lex) refused is = let same : Ok commands ≡ Err (fault.Lex lex) = one_answer text (Ok commands) (Err (fault.Lex lex)) h refused (λ e. cc) (λ e. cc) in cc
      by (fault.Syntax place) refused is = let same : Ok commands ≡ Err (fault.Syntax place) = one_answer text (Ok commands) (Err (fault.Syntax place)) h refused (λ e. cc) (λ e. cc) in cc
      by (fault.Limit limit) refused is = let same : Ok commands ≡ Err (fault.Limit limit) = one_answer text (Ok commands) (Err (fault.Limit limit)) h refused (λ e. cc) (λ e. cc) in cc
