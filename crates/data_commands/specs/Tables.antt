-- The table of an input is read from a file: the input is looked for, then the file is read, then the parameters have to
-- have values, and last come the rows, over the members of the input's domain at these values.
use Rattle.std.specs.Prelude.{◌≡◌, ℕ, ℤ, ◌&&◌, List, [], position, slice_get, Option, Some, None, Ok, Err}
use Rattle.std.specs.FinMap.{get, insert}
use Rattle.std.specs.Option.{option_map_or}
use Rattle.std.specs.Str.{bytes_eq}
use Rattle.az_lin.specs.Affine.{Union}
use Rattle.az_ast.specs.Shapes.{is_input}
use Rattle.az_ast.specs.System.{System}
use Rattle.az_ast.specs.Tables.{Rows, Tables, TableGives}
use Rattle.az_ast.specs.declared.reason.Reason.TheVariants as reason
use Rattle.az_desk.specs.Files.{Files}
use Rattle.table_data.specs.Answers.{IsPoint, TableAnswers}
use Rattle.table_data.specs.declared.fault.TableFault.{TableFault}
use Rattle.table_data.specs.declared.fault.TableFault.TheVariants as fault
use Rattle.session_state.specs.Settings.{Settings}
use Rattle.session_state.specs.Steps.{Step, ◌>>=◌, gives, some_or}
use Rattle.session_state.specs.Texts.{text_of}
use Rattle.session_state.specs.declared.refusal.Refusal.{Refusal}
use Rattle.session_state.specs.declared.refusal.Refusal.TheVariants.{Command, Overflow, Limited, BadTable}
use Rattle.session_state.specs.declared.refusal.Spot.TheVariants.{Scan}
use Rattle.session_state.specs.declared.stop.Stop.TheVariants.{Refused, Fault, Memory}
use Rattle.data_commands.specs.Parameters.{params}

-- the number of the input of that name
abbrev pub input_place : System → List ℕ → Option ℕ
input_place p name = position (λ variable. bytes_eq variable.name name && is_input variable.role) p.variables

abbrev pub input : System → List ℕ → Step ℕ
input p name = some_or (Command (reason.Unknown name)) (input_place p name)

abbrev pub domain_at : System → ℕ → Union
domain_at p x = option_map_or (λ variable. variable.domain) (slice_get p.variables x) (record { width = 0; disjuncts = [] })

-- why a text is refused as the table of the input of that name; want of memory is no refusal
abbrev pub table_refusal : List ℕ → TableFault → Option Refusal
table_refusal name (fault.BadRow row kind) = Some (BadTable name row kind)
table_refusal name fault.Overflow = Some (Overflow Scan)
table_refusal name fault.Entry = Some (Command reason.Entry)
table_refusal name (fault.Limit limit) = Some (Limited limit)
table_refusal name fault.Memory = None

abbrev pub table_in : List ℕ → Union → List ℤ → List ℕ → Step Rows
table_in name domain values text (Ok rows) = TableAnswers domain values text (Ok rows)
table_in name domain values text (Err (Refused refusal)) =
    (why : TableFault) × TableAnswers domain values text (Err why) × (table_refusal name why ≡ Some refusal)
table_in name domain values text (Err (Fault call)) = ⊥
table_in name domain values text (Err Memory) = ⊥

-- the table of input `x`, of that name
abbrev pub table_of : System → Settings → ℕ → List ℕ → List ℕ → Step Rows
table_of p settings x name text = params p settings >>= (λ values. table_in name (domain_at p x) values text)

-- the tables, with that of the input of that name from the file in place of an earlier one
abbrev pub read_input : System → Option Files → Settings → Tables → List ℕ → List ℕ → Step Tables
read_input p files settings tables name file =
    input p name >>= (λ x. text_of files file >>= (λ text. table_of p settings x name text >>= (λ rows. gives (insert tables x rows))))

-- each table gives a value at every point of its variable, at the values that are set
abbrev pub AreRead : System → Settings → Tables → Type 0
AreRead p settings tables =
    (x : ℕ) (rows : Rows) (values k : List ℤ) → get tables x ≡ Some rows → params p settings (Ok values) → IsPoint (domain_at p x) values k
    → (v : ℤ) × TableGives rows k v
