-- The words of the outputs' cells, once all is done.
use Rattle.std.proofs.Common.{◌≡◌, ℕ, true, false, Option, Some, None, refl, sym, ap, subst, ◌∙◌}
use Rattle.std.specs.Prelude.{ℤ, pos, slice_get, get_or, MatchOption}
use Rattle.std.specs.FinMap.{get}
use Rattle.std.specs.Option.{option_map_or}
use Rattle.std.proofs.lemmas.List.Elements.{All-weaker}
use Rattle.az_ast.specs.Meaning.{Means}
use Rattle.az_ast.specs.Tables.{Tables, Rows}
use Rattle.az_ast.specs.declared.program.Role.{Role}
use Rattle.az_ast.specs.declared.program.Role.TheVariants.{Input, Output, Local}
use Rattle.az_ast.specs.declared.program.Variable.{Variable}
use Rattle.execution.specs.Plans.{Plan}
use Rattle.execution.specs.Setting.{Setting, InstanceMeans, IsOutputInstance, IsSoundPlan, IsGoodState}
use Rattle.execution.specs.States.{State, has_ended}
use Rattle.execution.specs.declared.instance.Instance.{Instance}
use Rattle.execution.proofs.LawProofs.{ended_has_outputs}
use Rattle.plan_promise.specs.Outputs.{IsWordOf, AreWordRows, RoleWords, AreOutputWords}
use Rattle.target_map.specs.Times.{is_output}
use Rattle.value_walk.specs.Meanings.{IsMeaningTable}
use Rattle.certified_plans.specs.Laws.{RoleMeanings, AreOutputMeanings}
use Rattle.certified_plans.proofs.Instances.{instance}

module _ (g : Setting) (plan : Plan) (sound : IsSoundPlan g plan) (s : State) (good : IsGoodState g plan s) (ended : has_ended plan s ≡ true) where
  word-means : (u : Instance) (v : ℤ) → IsOutputInstance g u → IsWordOf plan s.cells u v → InstanceMeans g u v
  word-means u v out word =
      let own = subst (IsOutputInstance g) (sym word.3) out in
      let found = ended_has_outputs g plan sound s good ended word.0 word.1 word.2 own in
      subst (InstanceMeans g u) (sym word.4) (subst (λ w. InstanceMeans g w (get_or s.cells word.1.cell (pos 0))) word.3 found)

  rows-mean : (x : ℕ) (variable : Variable) → slice_get g.program.variables x ≡ Some variable → variable.role ≡ Output → (rows : Rows) → AreWordRows g plan s.cells x variable rows → IsMeaningTable g.program g.tables g.params x variable rows
  rows-mean x variable declared role rows words = record {
    points = words.points;
    values = All-weaker (λ row. IsWordOf plan s.cells (instance x row.0) row.1) (λ row. Means g.program g.tables g.params x row.0 row.1) (λ row word. word-means (instance x row.0) row.1 out word) rows words.words;
  }
    where
      out : option_map_or (λ (v : Variable). is_output v.role) (slice_get g.program.variables x) false ≡ true
      out = ap (λ o. option_map_or (λ (v : Variable). is_output v.role) o false) declared ∙ ap is_output role

  pub tables-mean : (values : Tables) → AreOutputWords g plan s.cells values → AreOutputMeanings g values
  tables-mean values words x = by (slice_get g.program.variables x) refl (words x)
    where
      of_table : (variable : Variable) → slice_get g.program.variables x ≡ Some variable → variable.role ≡ Output → (o : Option Rows) → MatchOption o ⊥ (AreWordRows g plan s.cells x variable) → MatchOption o ⊥ (IsMeaningTable g.program g.tables g.params x variable)
      of_table variable declared role None h = h
      of_table variable declared role (Some rows) h = rows-mean x variable declared role rows h

      of_role : (variable : Variable) → slice_get g.program.variables x ≡ Some variable → (role : Role) → variable.role ≡ role → RoleWords g plan s.cells role x variable values → RoleMeanings g role x variable values
      of_role variable declared Input e h = h
      of_role variable declared Output e h = of_table variable declared e (get values x) h
      of_role variable declared Local e h = h

      by : (o : Option Variable) → slice_get g.program.variables x ≡ o → MatchOption o (get values x ≡ None) (λ variable. RoleWords g plan s.cells variable.role x variable values) →
          MatchOption o (get values x ≡ None) (λ variable. RoleMeanings g variable.role x variable values)
      by None e h = h
      by (Some variable) e h = of_role variable e variable.role refl h
