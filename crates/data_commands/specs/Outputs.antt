-- A program is evaluated: its parameters have to have values, then each input its table, and then the output rows are
-- those of its meanings, or there is a reason why it has none.
use Rattle.std.specs.Prelude.{◌≡◌, ℕ, suc, ℤ, ◌&&◌, List, [], ◌∷◌, map, is_none, if◌then◌else◌, Option, Some, None, option_map, Ok, Err}
use Rattle.std.specs.FinMap.{get}
use Rattle.az_ast.specs.OutputRows.{AreOutputRows}
use Rattle.az_ast.specs.Shapes.{is_input}
use Rattle.az_ast.specs.System.{System}
use Rattle.az_ast.specs.Tables.{Tables}
use Rattle.az_ast.specs.declared.program.Variable.{Variable}
use Rattle.az_ast.specs.declared.reason.Reason.TheVariants as reason
use Rattle.equation_meaning.specs.Evaluation.{EvaluationAnswers}
use Rattle.value_walk.specs.declared.refusal.EvalRefusal.{EvalRefusal}
use Rattle.value_walk.specs.declared.refusal.EvalRefusal.TheVariants as evaluation
use Rattle.session_state.specs.Settings.{Settings}
use Rattle.session_state.specs.Steps.{Step, ◌>>=◌, unless}
use Rattle.session_state.specs.declared.refusal.Refusal.{Refusal}
use Rattle.session_state.specs.declared.refusal.Refusal.TheVariants.{Command, Overflow, Limited, Cycle}
use Rattle.session_state.specs.declared.refusal.Spot.TheVariants.{Scan}
use Rattle.session_state.specs.declared.stop.Stop.TheVariants.{Refused, Fault, Memory}
use Rattle.data_commands.specs.Parameters.{params}

-- the name of the first input without a table, from number `x` on
abbrev pub untabled : Tables → List Variable → ℕ → Option (List ℕ)
untabled tables [] x = None
untabled tables (variable ∷ variables) x =
    if is_input variable.role && is_none (get tables x) then Some variable.name else untabled tables variables (suc x)

abbrev pub every_table : System → Tables → Step (Unit {0})
every_table p tables = unless (option_map (λ name. Command (reason.NoTable name)) (untabled tables p.variables 0))

-- why a program has no values; want of memory is no refusal
abbrev pub evaluation_refusal : System → EvalRefusal → Option Refusal
evaluation_refusal p (evaluation.Cycle chain) = Some (Cycle chain (map (λ variable. variable.name) p.variables))
evaluation_refusal p evaluation.Overflow = Some (Overflow Scan)
evaluation_refusal p evaluation.Entry = Some (Command reason.Entry)
evaluation_refusal p (evaluation.Limit limit) = Some (Limited limit)
evaluation_refusal p evaluation.Memory = None

-- the output rows of a program whose outputs and locals have meanings at all their points, within the limits
abbrev pub evaluated : System → Tables → List ℤ → Step (List ℕ)
evaluated p tables values (Ok rows) =
    ((meanings : Tables) × EvaluationAnswers p tables values (Ok meanings)) × AreOutputRows p tables values rows
evaluated p tables values (Err (Refused refusal)) =
    (why : EvalRefusal) × EvaluationAnswers p tables values (Err why) × (evaluation_refusal p why ≡ Some refusal)
evaluated p tables values (Err (Fault call)) = ⊥
evaluated p tables values (Err Memory) = ⊥

abbrev pub output_rows : System → Settings → Tables → Step (List ℕ)
output_rows p settings tables = params p settings >>= (λ values. every_table p tables >>= (λ every. evaluated p tables values))
