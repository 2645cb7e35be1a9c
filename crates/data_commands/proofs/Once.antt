-- Each step is passed or refused, and not both; and those that others follow give one value.
use Rattle.std.proofs.Common.{◌≡◌, ℕ, ◌≤◌, ◌^◌, List, sym, ◌∙◌, inl, inr, arith}
use Rattle.std.specs.Prelude.{ℤ, option_map, Some, Ok, Err}
use Rattle.std.specs.FinMap.{insert}
use Rattle.az_lin.specs.Affine.{Union, HoldsSome}
use Rattle.az_ast.specs.System.{System}
use Rattle.az_ast.specs.Tables.{Tables}
use Rattle.az_ast.specs.declared.reason.Reason.TheVariants as reason
use Rattle.az_desk.specs.Files.{Files}
use Rattle.loop_scan.specs.declared.fault.ScanFault.{ScanFault}
use Rattle.loop_scan.specs.declared.fault.ScanFault.TheVariants as scan
use Rattle.table_data.proofs.Answered.{only_table}
use Rattle.table_data.specs.Answers.{IsOrMemory}
use Rattle.table_data.specs.declared.fault.TableFault.TheVariants as fault
use Rattle.equation_meaning.proofs.Once.{one-number}
use Rattle.equation_meaning.specs.Evaluation.{EvaluationAnswers, IsWithin, HasManyPoints}
use Rattle.value_walk.specs.Meanings.{IsRefused}
use Rattle.value_walk.specs.declared.refusal.EvalRefusal.{EvalRefusal}
use Rattle.value_walk.specs.declared.refusal.EvalRefusal.TheVariants as evaluation
use Rattle.session_state.proofs.Once.{IsOne, NotBoth, one_then, not_both_then, one_answer, not_both_answers, one_of_some, not_both_of_some, one_nothing, not_both_holds, not_both_unless, one_text, not_both_text}
use Rattle.session_state.specs.Settings.{Settings}
use Rattle.session_state.specs.Steps.{◌>>=◌, gives, holds_or}
use Rattle.session_state.specs.Texts.{text_of}
use Rattle.session_state.specs.declared.refusal.Refusal.TheVariants.{Command}
use Rattle.data_commands.specs.Outputs.{untabled, every_table, evaluation_refusal, evaluated, output_rows}
use Rattle.data_commands.specs.Parameters.{all_set, params}
use Rattle.data_commands.specs.Tables.{input_place, input, domain_at, table_refusal, table_in, table_of, read_input}
use Rattle.data_commands.proofs.Chains.{no_closed_chain}
use Rattle.data_commands.proofs.Values.{same_values}

one_set : (settings : Settings) → IsOne (all_set settings)
one_set settings xs ys h k = same_values xs ys (h ∙ sym k)

not_both_set : (settings : Settings) → NotBoth (all_set settings)
not_both_set settings values refusal h k = k.1 values h

module _ (p : System) (settings : Settings) where
  pub one_params : IsOne (params p settings)
  one_params =
      one_then (all_set settings) (λ values. holds_or (Command reason.Params) (HoldsSome p.pdom values) >>= (λ held. gives values)) (one_set settings) (λ values.
      one_then (holds_or (Command reason.Params) (HoldsSome p.pdom values)) (λ held. gives values) (one_nothing (holds_or (Command reason.Params) (HoldsSome p.pdom values))) (λ held.
      one_answer (Ok values)))

  pub not_both_params : NotBoth (params p settings)
  not_both_params =
      not_both_then (all_set settings) (λ values. holds_or (Command reason.Params) (HoldsSome p.pdom values) >>= (λ held. gives values)) (one_set settings) (not_both_set settings) (λ values.
      not_both_then (holds_or (Command reason.Params) (HoldsSome p.pdom values)) (λ held. gives values) (one_nothing (holds_or (Command reason.Params) (HoldsSome p.pdom values)))
      (not_both_holds (Command reason.Params) (HoldsSome p.pdom values)) (λ held. not_both_answers (Ok values)))

module _ (name : List ℕ) (domain : Union) (values : List ℤ) (text : List ℕ) where
  one_in : IsOne (table_in name domain values text)
  one_in x y h k = by (only_table domain values text (Ok y) k x h)
    where
      by : IsOrMemory (Ok x) (Ok y) → x ≡ y
      by (inl same) = cc
      by (inr none) = cc

  not_both_in : NotBoth (table_in name domain values text)
  not_both_in rows refusal h (why, answers, is) = by (only_table domain values text (Err why) answers rows h)
    where
      by : IsOrMemory (Ok rows) (Err why) → ⊥
      by (inl same) = cc
      by (inr memory) = let none : why ≡ fault.Memory = cc in let refused : table_refusal name fault.Memory ≡ Some refusal = rw none at is in cc

module _ (p : System) (told : Files) (settings : Settings) (tables : Tables) (name file : List ℕ) where
  module _ (x : ℕ) (text : List ℕ) where
    one_of : IsOne (table_of p settings x name text)
    one_of = one_then (params p settings) (λ values. table_in name (domain_at p x) values text) (one_params p settings) (λ values. one_in name (domain_at p x) values text)

    not_both_of : NotBoth (table_of p settings x name text)
    not_both_of =
        not_both_then (params p settings) (λ values. table_in name (domain_at p x) values text) (one_params p settings) (not_both_params p settings)
        (λ values. not_both_in name (domain_at p x) values text)

  pub one_read : IsOne (read_input p (Some told) settings tables name file)
  one_read =
      one_then (input p name) (λ x. text_of (Some told) file >>= (λ text. table_of p settings x name text >>= (λ rows. gives (insert tables x rows))))
      (one_of_some (Command (reason.Unknown name)) (input_place p name)) (λ x.
      one_then (text_of (Some told) file) (λ text. table_of p settings x name text >>= (λ rows. gives (insert tables x rows))) (one_text told file) (λ text.
      one_then (table_of p settings x name text) (λ rows. gives (insert tables x rows)) (one_of x text) (λ rows. one_answer _)))

  pub not_both_read : NotBoth (read_input p (Some told) settings tables name file)
  not_both_read =
      not_both_then (input p name) (λ x. text_of (Some told) file >>= (λ text. table_of p settings x name text >>= (λ rows. gives (insert tables x rows))))
      (one_of_some (Command (reason.Unknown name)) (input_place p name)) (not_both_of_some (Command (reason.Unknown name)) (input_place p name)) (λ x.
      not_both_then (text_of (Some told) file) (λ text. table_of p settings x name text >>= (λ rows. gives (insert tables x rows))) (one_text told file) (not_both_text told file) (λ text.
      not_both_then (table_of p settings x name text) (λ rows. gives (insert tables x rows)) (one_of x text) (not_both_of x text) (λ rows. not_both_answers _)))

module _ (p : System) (values : List ℤ) (within : IsWithin p values) where
  no_refused : (f : ScanFault) → (f ≡ scan.Memory → ⊥) → IsRefused p values f → ⊥
  no_refused f other (domain, outer, asked, refuses) = other (within.boxes domain outer asked f refuses)

  within_or_many : HasManyPoints p values → ⊥
  within_or_many (n, points, more) =
      let same : n ≡ within.number = one-number p values n within.number points within.points in
      let few : within.number ≤ 2 ^ 22 = within.few in
      omega (arith, more, few, same)

module _ (p : System) (tables : Tables) (values : List ℤ) where
  pub not_both_evaluated : NotBoth (evaluated p tables values)
  not_both_evaluated rows refusal ((meanings, (mean, within)), written) (why, answers, is) = by why answers is
    where
      by : (why : EvalRefusal) → EvaluationAnswers p tables values (Err why) → evaluation_refusal p why ≡ Some refusal → ⊥
      by (evaluation.Cycle chain) (closed, also) same = no_closed_chain p tables values meanings mean chain closed
      by evaluation.Overflow refused same = no_refused p values within scan.Overflow (λ e. cc) refused
      by evaluation.Entry refused same = no_refused p values within scan.Entry (λ e. cc) refused
      by (evaluation.Limit limit) (inl (points, many)) same = within_or_many p values within many
      by (evaluation.Limit limit) (inr refused) same = no_refused p values within (scan.Limit limit) (λ e. cc) refused
      by evaluation.Memory refused same = cc

pub not_both_rows : (p : System) (settings : Settings) (tables : Tables) → NotBoth (output_rows p settings tables)
not_both_rows p settings tables =
    not_both_then (params p settings) (λ values. every_table p tables >>= (λ every. evaluated p tables values)) (one_params p settings) (not_both_params p settings) (λ values.
    not_both_then (every_table p tables) (λ every. evaluated p tables values) (one_nothing (every_table p tables))
    (not_both_unless (option_map (λ name. Command (reason.NoTable name)) (untabled tables p.variables 0))) (λ every. not_both_evaluated p tables values))
