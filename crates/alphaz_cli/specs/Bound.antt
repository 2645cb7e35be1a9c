-- The bindings of an evaluation. The numbers of parameters are set first, and then the tables are read, each in the order
-- of the words, and a later one in place of an earlier one.
use Rattle.std.specs.Prelude.{Option}
use Rattle.az_ast.specs.System.{System}
use Rattle.az_ast.specs.Tables.{Tables}
use Rattle.az_desk.specs.Files.{Files}
use Rattle.command_words.specs.declared.binding.Binding.{Binding}
use Rattle.command_words.specs.declared.binding.Binding.TheVariants.{Parameter, Table}
use Rattle.data_commands.specs.Tables.{read_input}
use Rattle.session_state.specs.Settings.{Settings, set_parameter}
use Rattle.session_state.specs.Steps.{Step, gives}

abbrev pub set_bound : System → Settings → Binding → Step Settings
set_bound p settings (Parameter name number) = set_parameter p settings name number
set_bound p settings (Table name file) = gives settings

abbrev pub read_bound : System → Option Files → Settings → Tables → Binding → Step Tables
read_bound p files settings tables (Parameter name number) = gives tables
read_bound p files settings tables (Table name file) = read_input p files settings tables name file
