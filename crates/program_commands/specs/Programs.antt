-- A program is read from a file: first its text, then what the text says, then whether it is certified.
use Rattle.std.specs.Prelude.{◌≡◌, ℕ, List, [], Option, Some, None, Ok, Err, slice_get}
use Rattle.std.specs.Option.{option_map_or}
use Rattle.az_ast.specs.Certified.{IsCertified}
use Rattle.az_ast.specs.System.{System}
use Rattle.az_ast.specs.declared.program.Variable.{Variable}
use Rattle.az_ast.specs.declared.reason.Reason.TheVariants as reason
use Rattle.az_desk.specs.Files.{Files}
use Rattle.az_text.specs.declared.fault.LexFault.TheVariants as lexical
use Rattle.program_names.specs.ProgramOf.{IsProgramOf}
use Rattle.alphabets_read.specs.Answers.{IsFaultOf}
use Rattle.alphabets_read.specs.declared.fault.ReadFault.{ReadFault}
use Rattle.alphabets_read.specs.declared.fault.ReadFault.TheVariants as fault
use Rattle.domain_check.specs.Promise.{Accepts, Refuses}
use Rattle.domain_check.specs.declared.fault.CertifyFault.{CertifyFault}
use Rattle.domain_check.specs.declared.fault.CertifyFault.TheVariants as check
use Rattle.session_state.specs.Steps.{Step, ◌>>=◌}
use Rattle.session_state.specs.Texts.{text_of}
use Rattle.session_state.specs.declared.refusal.Refusal.{Refusal}
use Rattle.session_state.specs.declared.refusal.Refusal.TheVariants.{Text, Shape, ProgramNo, Command, Overflow, Limited}
use Rattle.session_state.specs.declared.refusal.Spot.TheVariants.{Check}
use Rattle.session_state.specs.declared.refusal.TextKind.TheVariants.{Syntax, BadByte, WideNumber}
use Rattle.session_state.specs.declared.stop.Stop.TheVariants.{Refused, Fault, Memory}

-- why the text of a file is refused; want of memory is no refusal
abbrev pub text_refusal : List ℕ → ReadFault → Option Refusal
text_refusal file (fault.Lex (lexical.BadByte place)) = Some (Text file BadByte place)
text_refusal file (fault.Lex (lexical.WideNumber place)) = Some (Text file WideNumber place)
text_refusal file (fault.Lex lexical.Memory) = None
text_refusal file (fault.Syntax place) = Some (Text file Syntax place)
text_refusal file (fault.Shape kind item) = Some (Shape kind item)
text_refusal file (fault.Limit limit) = Some (Limited limit)
text_refusal file fault.Memory = None

abbrev pub program_in : List ℕ → List ℕ → Step System
program_in file text (Ok p) = IsProgramOf text p
program_in file text (Err (Refused refusal)) = (why : ReadFault) × IsFaultOf text why × (text_refusal file why ≡ Some refusal)
program_in file text (Err (Fault call)) = ⊥
program_in file text (Err Memory) = ⊥

abbrev pub variable_name : System → ℕ → List ℕ
variable_name p x = option_map_or (λ variable. variable.name) (slice_get p.variables x) []

-- why a program is not certified
abbrev pub check_refusal : System → CertifyFault → Option Refusal
check_refusal p (check.No found) = Some (ProgramNo found.kind (variable_name p found.variable) found.case_no found.point)
check_refusal p (check.Overflow kind variable number) = Some (Overflow (Check kind (variable_name p variable) number))
check_refusal p check.Entry = Some (Command reason.Entry)
check_refusal p (check.Limit limit) = Some (Limited limit)
check_refusal p check.Memory = None

-- the program, certified
abbrev pub certified : System → Step System
certified p (Ok q) = (q ≡ p) × Accepts p × IsCertified p
certified p (Err (Refused refusal)) = (why : CertifyFault) × Refuses p why × (check_refusal p why ≡ Some refusal)
certified p (Err (Fault call)) = ⊥
certified p (Err Memory) = ⊥

abbrev pub read_alphabets : Option Files → List ℕ → Step System
read_alphabets files file = text_of files file >>= (λ text. program_in file text >>= certified)
