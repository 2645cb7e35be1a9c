-- A program is evaluated or refused, and not both.
use Rattle.std.specs.Prelude.{Some}
use Rattle.std.specs.FinMap.{empty}
use Rattle.az_ast.specs.System.{System}
use Rattle.az_ast.specs.Tables.{Tables}
use Rattle.az_desk.specs.Files.{Files}
use Rattle.command_words.specs.declared.binding.Binding.{Binding}
use Rattle.command_words.specs.declared.binding.Binding.TheVariants.{Parameter, Table}
use Rattle.command_words.specs.declared.evaluation.Evaluation.{Evaluation}
use Rattle.data_commands.proofs.Once.{not_both_rows, one_read as one_read_input, not_both_read as not_both_read_input}
use Rattle.data_commands.specs.Outputs.{output_rows}
use Rattle.session_state.proofs.Once.{IsOne, NotBoth, not_both_then, one_answer, not_both_answers, one_setting, not_both_setting, one_each, not_both_each}
use Rattle.session_state.specs.Settings.{Settings, unset}
use Rattle.session_state.specs.Steps.{◌>>=◌, each_in}
use Rattle.alphaz_cli.specs.Bound.{set_bound, read_bound}
use Rattle.alphaz_cli.specs.Evaluation.{evaluated, evaluation}
use Rattle.program_commands.proofs.Once.{one_read, not_both_read}
use Rattle.program_commands.specs.Programs.{read_alphabets}

module _ (p : System) where
  one_bound : (settings : Settings) (binding : Binding) → IsOne (set_bound p settings binding)
  one_bound settings (Parameter name number) = one_setting p settings name number
  one_bound settings (Table name file) = one_answer _

  not_both_bound : (settings : Settings) (binding : Binding) → NotBoth (set_bound p settings binding)
  not_both_bound settings (Parameter name number) = not_both_setting p settings name number
  not_both_bound settings (Table name file) = not_both_answers _

  module _ (told : Files) (settings : Settings) where
    one_table : (tables : Tables) (binding : Binding) → IsOne (read_bound p (Some told) settings tables binding)
    one_table tables (Parameter name number) = one_answer _
    one_table tables (Table name file) = one_read_input p told settings tables name file

    not_both_table : (tables : Tables) (binding : Binding) → NotBoth (read_bound p (Some told) settings tables binding)
    not_both_table tables (Parameter name number) = not_both_answers _
    not_both_table tables (Table name file) = not_both_read_input p told settings tables name file

not_both_evaluated : (told : Files) (e : Evaluation) (p : System) → NotBoth (evaluated (Some told) e p)
not_both_evaluated told e p =
    not_both_then (each_in (set_bound p) (unset p) e.bindings)
    (λ settings. each_in (read_bound p (Some told) settings) empty e.bindings >>= (λ tables. output_rows p settings tables))
    (one_each (set_bound p) (one_bound p) e.bindings (unset p)) (not_both_each (set_bound p) (one_bound p) (not_both_bound p) e.bindings (unset p)) (λ settings.
    not_both_then (each_in (read_bound p (Some told) settings) empty e.bindings) (λ tables. output_rows p settings tables)
    (one_each (read_bound p (Some told) settings) (one_table p told settings) e.bindings empty)
    (not_both_each (read_bound p (Some told) settings) (one_table p told settings) (not_both_table p told settings) e.bindings empty) (λ tables.
    not_both_rows p settings tables))

pub not_both_evaluation : (told : Files) (e : Evaluation) → NotBoth (evaluation (Some told) e)
not_both_evaluation told e =
    not_both_then (read_alphabets (Some told) e.program) (evaluated (Some told) e) (one_read told e.program) (not_both_read told e.program) (not_both_evaluated told e)
