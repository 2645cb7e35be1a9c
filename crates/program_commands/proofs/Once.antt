-- Each command is carried out or refused, and not both, and leaves one thing.
use Rattle.std.proofs.Common.{◌≡◌, ℕ, List, [], refl, sym, ◌∙◌}
use Rattle.std.specs.Prelude.{Some, None}
use Rattle.alphabets_read.specs.declared.fault.ReadFault.{ReadFault}
use Rattle.alphabets_read.specs.declared.fault.ReadFault.TheVariants as fault
use Rattle.alphabets_read.proofs.Once.{no_fault, one_program}
use Rattle.alphabets_show.specs.Shown.{shown}
use Rattle.az_ast.specs.System.{System}
use Rattle.az_ast.specs.declared.reason.Reason.TheVariants.{NoProgram}
use Rattle.az_desk.specs.Files.{Files}
use Rattle.session_state.proofs.Once.{IsOne, NotBoth, one_then, not_both_then, one_answer, not_both_answers, one_of_some, not_both_of_some, one_text, not_both_text}
use Rattle.session_state.specs.Session.{Session, Carried, fresh, opened}
use Rattle.session_state.specs.Steps.{◌>>=◌, gives}
use Rattle.session_state.specs.Texts.{text_of}
use Rattle.session_state.specs.declared.refusal.Refusal.TheVariants.{Command}
use Rattle.program_commands.proofs.OneCertificate.{certified_or_not}
use Rattle.program_commands.specs.Commands.{load_program, check_program, show_program}
use Rattle.program_commands.specs.Programs.{text_refusal, program_in, certified, read_alphabets}

one_in : (file text : List ℕ) → IsOne (program_in file text)
one_in file text p q h k = one_program text q p k h

not_both_in : (file text : List ℕ) → NotBoth (program_in file text)
not_both_in file text p refusal h (why, refused, is) = no_fault text p h why refused (λ e. let none : text_refusal file fault.Memory ≡ Some refusal = rw e at is in cc)

pub one_certified : (p : System) → IsOne (certified p)
one_certified p x y h k = h.0 ∙ sym k.0

pub not_both_certified : (p : System) → NotBoth (certified p)
not_both_certified p q refusal h (why, refuses, is) = certified_or_not p why refusal h.1 refuses is

module _ (told : Files) (file : List ℕ) where
  pub one_read : IsOne (read_alphabets (Some told) file)
  one_read = one_then (text_of (Some told) file) (λ text. program_in file text >>= certified) (one_text told file) (λ text. one_then (program_in file text) certified (one_in file text) one_certified)

  pub not_both_read : NotBoth (read_alphabets (Some told) file)
  not_both_read =
      not_both_then (text_of (Some told) file) (λ text. program_in file text >>= certified) (one_text told file) (not_both_text told file)
      (λ text. not_both_then (program_in file text) certified (one_in file text) (not_both_in file text) not_both_certified)

  pub one_load : IsOne (load_program (Some told) file)
  one_load = one_then (read_alphabets (Some told) file) (λ p. gives (record { session = Some (fresh p); text = [] })) one_read (λ p. one_answer _)

  pub not_both_load : NotBoth (load_program (Some told) file)
  not_both_load = not_both_then (read_alphabets (Some told) file) (λ p. gives (record { session = Some (fresh p); text = [] })) one_read not_both_read (λ p. not_both_answers _)

module _ (session : Session) where
  pub one_check : IsOne (check_program session)
  one_check = one_then (opened session) (λ loaded. gives (record { session = session; text = [] })) (one_of_some (Command NoProgram) session) (λ loaded. one_answer _)

  pub not_both_check : NotBoth (check_program session)
  not_both_check =
      not_both_then (opened session) (λ loaded. gives (record { session = session; text = [] })) (one_of_some (Command NoProgram) session) (not_both_of_some (Command NoProgram) session)
      (λ loaded. not_both_answers _)

  pub one_show : IsOne (show_program session)
  one_show = one_then (opened session) (λ loaded. gives (record { session = session; text = shown loaded.current })) (one_of_some (Command NoProgram) session) (λ loaded. one_answer _)

  pub not_both_show : NotBoth (show_program session)
  not_both_show =
      not_both_then (opened session) (λ loaded. gives (record { session = session; text = shown loaded.current })) (one_of_some (Command NoProgram) session) (not_both_of_some (Command NoProgram) session)
      (λ loaded. not_both_answers _)
