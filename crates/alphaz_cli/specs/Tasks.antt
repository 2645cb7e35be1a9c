-- The commands of scripts that are carried out today. One of them writes a file, whose name it has.
use Rattle.std.specs.Prelude.{ℕ, List, codes, Option, Some, None}
use Rattle.az_desk.specs.Files.{Files}
use Rattle.script_grammar.specs.declared.command.Command.{Command}
use Rattle.script_grammar.specs.declared.command.Command.TheVariants as script
use Rattle.command_listing.specs.Commands.{Commands}
use Rattle.session_state.specs.Session.{Session, Carried}
use Rattle.session_state.specs.Steps.{Step}
use Rattle.session_state.specs.Writings.{FileText}
use Rattle.program_commands.specs.Commands.{load_program, check_program, show_program}
use Rattle.data_commands.specs.Commands.{set_number, load_table}
use Rattle.rewrite_commands.specs.Commands.{change_basis, inline, remove_unused}
use Rattle.mapping_commands.specs.Commands.{set_dimension_kinds, set_space_time_map, set_memory_map, set_statement_order}
use Rattle.verify_commands.specs.Commands.{verify_target_mapping, write_certificate, certificate_file}
use Rattle.alphaz_cli.specs.declared.task.Task.{Task}
use Rattle.alphaz_cli.specs.declared.task.Task.TheVariants.{ReadAlphabets, CheckProgram, Show, ChangeBasis, Inline, RemoveUnused, SetDimensionKinds, SetSpaceTimeMap, SetMemoryMap, SetStatementOrder, VerifyTargetMapping, WriteCertificate, SetParameter, ReadInput}

abbrev pub task_of : Command → Option Task
task_of (script.ReadAlphabets file) = Some (ReadAlphabets file)
task_of script.CheckProgram = Some CheckProgram
task_of script.Show = Some Show
task_of (script.CoB variable map) = Some (ChangeBasis variable map)
task_of (script.Inline into target) = Some (Inline into target)
task_of (script.RemoveUnused variable) = Some (RemoveUnused variable)
task_of (script.SetDimensionKinds kinds) = Some (SetDimensionKinds kinds)
task_of (script.SetSpaceTimeMap variable map) = Some (SetSpaceTimeMap variable map)
task_of (script.SetMemoryMap variable space map factors) = Some (SetMemoryMap variable space map factors)
task_of (script.SetStatementOrder variables) = Some (SetStatementOrder variables)
task_of script.VerifyTargetMapping = Some VerifyTargetMapping
task_of (script.WriteCertificate file) = Some (WriteCertificate file)
task_of (script.SetParameter parameter number) = Some (SetParameter parameter number)
task_of (script.ReadInput input file) = Some (ReadInput input file)
task_of other = None

abbrev pub word : Task → List ℕ
word (ReadAlphabets file) = codes "ReadAlphabets"
word CheckProgram = codes "CheckProgram"
word Show = codes "Show"
word (ChangeBasis variable map) = codes "CoB"
word (Inline into target) = codes "Inline"
word (RemoveUnused variable) = codes "RemoveUnused"
word (SetDimensionKinds kinds) = codes "setDimensionKinds"
word (SetSpaceTimeMap variable map) = codes "setSpaceTimeMap"
word (SetMemoryMap variable space map factors) = codes "setMemoryMap"
word (SetStatementOrder variables) = codes "setStatementOrder"
word VerifyTargetMapping = codes "VerifyTargetMapping"
word (WriteCertificate file) = codes "WriteCertificate"
word (SetParameter parameter number) = codes "setParameter"
word (ReadInput input file) = codes "ReadInput"

abbrev pub answer : Task → List ℕ
answer VerifyTargetMapping = codes "yes"
answer other = codes "ok"

abbrev pub gives : Task → Option Files → Session → Step Carried
gives (ReadAlphabets file) files session = load_program files file
gives CheckProgram files session = check_program session
gives Show files session = show_program session
gives (ChangeBasis variable map) files session = change_basis session variable map
gives (Inline into target) files session = inline session into target
gives (RemoveUnused variable) files session = remove_unused session variable
gives (SetDimensionKinds kinds) files session = set_dimension_kinds session kinds
gives (SetSpaceTimeMap variable map) files session = set_space_time_map session variable map
gives (SetMemoryMap variable space map factors) files session = set_memory_map session variable space map factors
gives (SetStatementOrder variables) files session = set_statement_order session variables
gives VerifyTargetMapping files session = verify_target_mapping session
gives (WriteCertificate file) files session = write_certificate session file
gives (SetParameter parameter number) files session = set_number session parameter number
gives (ReadInput input file) files session = load_table files session input file

-- the file that a task may write
abbrev pub file_of : Task → Option (List ℕ)
file_of (WriteCertificate file) = Some file
file_of other = None

abbrev pub written_to : Option (List ℕ) → Session → Option FileText
written_to None session = None
written_to (Some file) session = certificate_file session file

abbrev pub writes : Task → Session → Option FileText
writes task session = written_to (file_of task) session

abbrev pub tasks : Commands Task
tasks = record { word = word; answer = answer; gives = gives; writes = writes }
