-- Each task is carried out or refused, and not both, and leaves one thing; and so is a script read.
use Rattle.std.proofs.Common.{ℕ, List, sym, ap, ◌∙◌}
use Rattle.std.specs.Prelude.{Some, map}
use Rattle.az_desk.specs.Files.{Files}
use Rattle.session_state.proofs.Once.{IsOne, NotBoth, one_then, not_both_then, one_text, not_both_text}
use Rattle.session_state.specs.Session.{Session}
use Rattle.session_state.specs.Steps.{◌>>=◌}
use Rattle.session_state.specs.Texts.{text_of}
use Rattle.script_grammar.specs.declared.command.Command.{Command}
use Rattle.program_commands.proofs.Once.{one_load, not_both_load, one_check, not_both_check, one_show, not_both_show}
use Rattle.rewrite_commands.proofs.Once.{one_change_basis, not_both_change_basis, one_inline, not_both_inline, one_remove_unused, not_both_remove_unused}
use Rattle.data_commands.proofs.OneCommand.{one_number, not_both_number, one_table, not_both_table}
use Rattle.mapping_commands.proofs.Once.{one_kinds, not_both_kinds, one_time, not_both_time, one_memory, not_both_memory, one_order, not_both_order}
use Rattle.verify_commands.proofs.Once.{one_verify, not_both_verify, one_write, not_both_write}
use Rattle.script_files.proofs.Once.{one_in, not_both_in}
use Rattle.script_files.specs.Commands.{commands_in}
use Rattle.alphaz_cli.proofs.AllKnown.{same_values, none_in_all}
use Rattle.alphaz_cli.specs.Scripts.{tasks_in, script}
use Rattle.alphaz_cli.specs.Tasks.{task_of, gives}
use Rattle.alphaz_cli.specs.declared.task.Task.{Task}
use Rattle.alphaz_cli.specs.declared.task.Task.TheVariants.{ReadAlphabets, CheckProgram, Show, ChangeBasis, Inline, RemoveUnused, SetDimensionKinds, SetSpaceTimeMap, SetMemoryMap, SetStatementOrder, VerifyTargetMapping, WriteCertificate, SetParameter, ReadInput}

pub one_task : (task : Task) (told : Files) (session : Session) → IsOne (gives task (Some told) session)
one_task (ReadAlphabets file) told session = one_load told file
one_task CheckProgram told session = one_check session
one_task Show told session = one_show session
one_task (ChangeBasis variable map) told session = one_change_basis session variable map
one_task (Inline into target) told session = one_inline session into target
one_task (RemoveUnused variable) told session = one_remove_unused session variable
one_task (SetDimensionKinds kinds) told session = one_kinds session kinds
one_task (SetSpaceTimeMap variable map) told session = one_time session variable map
one_task (SetMemoryMap variable space map factors) told session = one_memory session variable space map factors
one_task (SetStatementOrder variables) told session = one_order session variables
one_task VerifyTargetMapping told session = one_verify session
one_task (WriteCertificate file) told session = one_write session file
one_task (SetParameter parameter number) told session = one_number session parameter number
one_task (ReadInput input file) told session = one_table told session input file

pub not_both_task : (task : Task) (told : Files) (session : Session) → NotBoth (gives task (Some told) session)
not_both_task (ReadAlphabets file) told session = not_both_load told file
not_both_task CheckProgram told session = not_both_check session
not_both_task Show told session = not_both_show session
not_both_task (ChangeBasis variable map) told session = not_both_change_basis session variable map
not_both_task (Inline into target) told session = not_both_inline session into target
not_both_task (RemoveUnused variable) told session = not_both_remove_unused session variable
not_both_task (SetDimensionKinds kinds) told session = not_both_kinds session kinds
not_both_task (SetSpaceTimeMap variable map) told session = not_both_time session variable map
not_both_task (SetMemoryMap variable space map factors) told session = not_both_memory session variable space map factors
not_both_task (SetStatementOrder variables) told session = not_both_order session variables
not_both_task VerifyTargetMapping told session = not_both_verify session
not_both_task (WriteCertificate file) told session = not_both_write session file
not_both_task (SetParameter parameter number) told session = not_both_number session parameter number
not_both_task (ReadInput input file) told session = not_both_table told session input file

module _ (file text : List ℕ) (commands : List Command) where
  one_tasks : IsOne (tasks_in file text commands)
  one_tasks x y h k = same_values x y (sym h ∙ k)

  not_both_tasks : NotBoth (tasks_in file text commands)
  not_both_tasks tasks refusal h (first, is) =
      none_in_all task_of first.before first.command first.after tasks (sym (ap (map task_of) first.order) ∙ h) first.open_here

module _ (told : Files) (file : List ℕ) where
  pub one_script : IsOne (script (Some told) file)
  one_script =
      one_then (text_of (Some told) file) (λ text. commands_in file text >>= tasks_in file text) (one_text told file) (λ text.
      one_then (commands_in file text) (tasks_in file text) (one_in file text) (one_tasks file text))

  pub not_both_script : NotBoth (script (Some told) file)
  not_both_script =
      not_both_then (text_of (Some told) file) (λ text. commands_in file text >>= tasks_in file text) (one_text told file) (not_both_text told file) (λ text.
      not_both_then (commands_in file text) (tasks_in file text) (one_in file text) (not_both_in file text) (not_both_tasks file text))
