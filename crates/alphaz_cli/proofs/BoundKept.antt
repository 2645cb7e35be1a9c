-- What the bindings keep: numbers that are set are coordinates, and tables that are read have their points.
use Rattle.std.proofs.Common.{◌≡◌, sym, subst}
use Rattle.std.specs.Prelude.{Option, Ok}
use Rattle.az_ast.specs.System.{System}
use Rattle.az_ast.specs.Tables.{Tables}
use Rattle.az_desk.specs.Files.{Files}
use Rattle.command_words.specs.declared.binding.Binding.{Binding}
use Rattle.command_words.specs.declared.binding.Binding.TheVariants.{Parameter, Table}
use Rattle.data_commands.proofs.Given.{read_keeps}
use Rattle.data_commands.specs.Tables.{AreRead}
use Rattle.session_state.proofs.Kept.{set_keeps}
use Rattle.session_state.specs.Settings.{Settings, AreSettings}
use Rattle.alphaz_cli.specs.Bound.{set_bound, read_bound}

pub setting_keeps : (p : System) (settings : Settings) (binding : Binding) (more : Settings) → set_bound p settings binding (Ok more) → AreSettings p settings → AreSettings p more
setting_keeps p settings (Parameter name number) more h are = set_keeps p settings name number more h are
setting_keeps p settings (Table name file) more h are = let same : more ≡ settings = cc in subst (AreSettings p) (sym same) are

pub reading_keeps : (p : System) (files : Option Files) (settings : Settings) (tables : Tables) (binding : Binding) (more : Tables) → read_bound p files settings tables binding (Ok more)
    → AreRead p settings tables → AreRead p settings more
reading_keeps p files settings tables (Parameter name number) more h read = let same : more ≡ tables = cc in subst (AreRead p settings) (sym same) read
reading_keeps p files settings tables (Table name file) more h read = read_keeps p files settings tables name file more h read
