-- The answers of the calls, as those of the steps.
use Rattle.std.proofs.Common.{◌≡◌, ℕ, ◌<◌, List, [], ◌∷◌, ◌++◌, length, get_or, take, drop, true, false, cond, Some, sym, ap, subst, ◌∙◌, add-one, drop-cons}
use Rattle.std.specs.Prelude.{ℤ, map, ◌&&◌, is_none, OnOk, IfErr, Result, Ok, Err, suc, ◌+◌}
use Rattle.std.specs.FinMap.{get, insert}
use Rattle.std.proofs.lemmas.List.{take_more, map-append}
use Rattle.az_lin.specs.Affine.{Union}
use Rattle.az_ast.specs.OutputRows.{AreOutputRows}
use Rattle.az_ast.specs.Shapes.{is_input}
use Rattle.az_ast.specs.System.{System}
use Rattle.az_ast.specs.Tables.{Rows, Tables}
use Rattle.az_ast.specs.declared.program.Variable.{Variable}
use Rattle.table_data.specs.Answers.{TableAnswers}
use Rattle.table_data.specs.Written.{TablesMean}
use Rattle.table_data.specs.declared.fault.TableFault.{TableFault}
use Rattle.equation_meaning.specs.Evaluation.{EvaluationAnswers}
use Rattle.value_walk.specs.declared.refusal.EvalRefusal.{EvalRefusal}
use Rattle.session_state.specs.Steps.{Takes, TakesAlone, IsStopFor, gives, with_value}
use Rattle.session_state.specs.declared.stop.Stop.{Stop}
use Rattle.session_state.specs.declared.stop.Stop.TheVariants.{Refused, Fault, Memory}
use Rattle.data_commands.specs.Outputs.{untabled, evaluation_refusal, evaluated}
use Rattle.data_commands.specs.Tables.{table_refusal, table_in}
use Rattle.data_commands.proofs.Meant.{tables_mean}

pub table_stops : (name : List ℕ) (domain : Union) (values : List ℤ) (text : List ℕ) (why : TableFault) (stop : Stop) → TableAnswers domain values text (Err why)
    → IsStopFor (table_refusal name why) stop → TakesAlone (table_in name domain values text) (Err stop)
table_stops name domain values text why (Refused refusal) h is = (why, h, is)
table_stops name domain values text why (Fault call) h is = absurd is
table_stops name domain values text why Memory h is = tt

-- a table is put in place of an earlier one
pub put_takes : (old new : Tables) (x : ℕ) (rows : Rows) (result : Result (Unit {0}) Stop) → OnOk result (new ≡ insert old x rows) → IfErr result (λ stop. stop ≡ Memory)
    → Takes (gives (insert old x rows)) (with_value new result)
put_takes old new x rows (Ok _) h cause = ap Ok h
put_takes old new x rows (Err stop) h cause = subst (λ (s : Stop). Takes (gives (insert old x rows)) (Err s)) (sym cause) tt

module _ (p : System) (tables : Tables) (values : List ℤ) where
  evaluation_stops : (why : EvalRefusal) (stop : Stop) → EvaluationAnswers p tables values (Err why) → IsStopFor (evaluation_refusal p why) stop
      → TakesAlone (evaluated p tables values) (Err stop)
  evaluation_stops why (Refused refusal) h is = (why, h, is)
  evaluation_stops why (Fault call) h is = absurd is
  evaluation_stops why Memory h is = tt

  -- by a program that is lent
  module _ (q : System) (same : q ≡ p) where
    pub no_values : (why : EvalRefusal) (stop : Stop) → EvaluationAnswers p tables values (Err why) → IsStopFor (evaluation_refusal q why) stop → TakesAlone (evaluated p tables values) (Err stop)
    no_values why stop h is = evaluation_stops why stop h (subst (λ (r : System). IsStopFor (evaluation_refusal r why) stop) same is)

    pub has_rows : (meanings : Tables) (rows : List ℕ) → EvaluationAnswers p tables values (Ok meanings)
        → ((inputs : Tables) (params : List ℤ) → TablesMean q inputs params meanings → AreOutputRows q inputs params rows) → TakesAlone (evaluated p tables values) (Ok rows)
    has_rows meanings rows h written = (
      (meanings, h),
      subst (λ (r : System). AreOutputRows r tables values rows) same
          (written tables values (subst (λ (r : System). TablesMean r tables values meanings) (sym same) (tables_mean p tables values meanings h.0))),
    )

abbrev name_of : Variable → List ℕ
name_of variable = variable.name

-- one name more
pub name_more : (vs : List Variable) (names after : List (List ℕ)) (i : ℕ) (v : Variable) (name : List ℕ) → i < length vs → v ≡ get_or vs i v → name ≡ v.name
    → names ≡ map name_of (take i vs) → after ≡ names ++ name ∷ [] → after ≡ map name_of (take (i + 1) vs)
name_more vs names after i v name within here is so_far more =
    more ∙ ap (λ ns. ns ++ name ∷ []) so_far ∙ ap (λ n. map name_of (take i vs) ++ n ∷ []) is
    ∙ sym (map-append name_of (take i vs) (v ∷ []))
    ∙ ap (λ (w : Variable). map name_of (take i vs ++ w ∷ [])) here
    ∙ ap (map name_of) (sym (take_more vs i v within))

-- the variable at a place has its table, or is the one that lacks it
module _ (tables : Tables) (vs : List Variable) (x : ℕ) (v : Variable) (within : x < length vs) (here : v ≡ get_or vs x v) where
  cut : drop x vs ≡ v ∷ drop (x + 1) vs
  cut = drop-cons vs x v within ∙ (ap (λ w. w ∷ drop (suc x) vs) (sym here) ∙ ap (λ k. v ∷ drop k vs) (sym (add-one x)))

  opened : untabled tables (drop x vs) x ≡ cond (is_input v.role && is_none (get tables x)) (Some v.name) (untabled tables (drop (x + 1) vs) (suc x))
  opened = ap (λ (ws : List Variable). untabled tables ws x) cut

  pub has_none : is_input v.role ≡ true → is_none (get tables x) ≡ true → untabled tables (drop x vs) x ≡ Some v.name
  has_none input none = opened ∙ ap (λ b. cond b (Some v.name) (untabled tables (drop (x + 1) vs) (suc x))) (ap (λ a. a && is_none (get tables x)) input ∙ none)

  pub passes : (is_input v.role && is_none (get tables x)) ≡ false → untabled tables (drop x vs) x ≡ untabled tables (drop (x + 1) vs) (x + 1)
  passes other =
      opened ∙ ap (λ b. cond b (Some v.name) (untabled tables (drop (x + 1) vs) (suc x))) other ∙ ap (untabled tables (drop (x + 1) vs)) (sym (add-one x))
