-- What `eval` does, test by test: the program is read, then its parameters are set and the tables of its inputs read, and
-- then it is evaluated.
use Rattle.std.specs.Prelude.{ℕ, List, Option}
use Rattle.std.specs.FinMap.{empty}
use Rattle.az_ast.specs.System.{System}
use Rattle.az_desk.specs.Files.{Files}
use Rattle.command_words.specs.declared.evaluation.Evaluation.{Evaluation}
use Rattle.data_commands.specs.Outputs.{output_rows}
use Rattle.session_state.specs.Settings.{unset}
use Rattle.session_state.specs.Steps.{Step, ◌>>=◌, each_in}
use Rattle.alphaz_cli.specs.Bound.{set_bound, read_bound}
use Rattle.program_commands.specs.Programs.{read_alphabets}

-- of a program that was read
abbrev pub evaluated : Option Files → Evaluation → System → Step (List ℕ)
evaluated files e p =
    each_in (set_bound p) (unset p) e.bindings >>= (λ settings.
    each_in (read_bound p files settings) empty e.bindings >>= (λ tables.
    output_rows p settings tables))

abbrev pub evaluation : Option Files → Evaluation → Step (List ℕ)
evaluation files e = read_alphabets files e.program >>= evaluated files e
