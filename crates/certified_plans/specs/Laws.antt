-- What a certified mapping gives. Each instance means something, since what it reads is before it; a plan that is as
-- promised is sound, so that every event keeps every value; and where it has been carried out, in whatever order, the
-- words of the outputs' cells are the outputs' meanings.
use Rattle.std.specs.Prelude.{◌≡◌, ℕ, ℤ, List, true, length, slice_get, Some, None, MatchOption}
use Rattle.std.specs.FinMap.{get}
use Rattle.az_ast.specs.Tables.{Tables}
use Rattle.az_ast.specs.declared.program.Role.{Role}
use Rattle.az_ast.specs.declared.program.Role.TheVariants.{Input, Output, Local}
use Rattle.az_ast.specs.declared.program.Variable.{Variable}
use Rattle.execution.specs.Events.{after_all}
use Rattle.execution.specs.Plans.{Load, Work, Plan, place, Stands}
use Rattle.execution.specs.Setting.{Setting, InstanceMeans, IsSoundPlan, IsGoodState}
use Rattle.execution.specs.States.{State, start, word, Works, has_ended}
use Rattle.execution.specs.declared.event.Event.{Event}
use Rattle.execution.specs.declared.instance.Instance.{Instance}
use Rattle.plan_promise.specs.Outputs.{AreOutputWords}
use Rattle.plan_promise.specs.Promise.{IsCertifiedSetting, IsPlanOf}
use Rattle.tile_waves.specs.Waves.{IsInstance}
use Rattle.value_walk.specs.Meanings.{HaveInputs, IsMeaningTable}

-- where each input has a table over its domain
abbrev pub EveryInstanceMeans : Type 0
EveryInstanceMeans =
    (g : Setting) → IsCertifiedSetting g → HaveInputs g.program g.tables g.params → (u : Instance) → IsInstance g.program g.params u → (v : ℤ) × InstanceMeans g u v

abbrev pub PlanIsSound : Type 0
PlanIsSound = (g : Setting) (plan : Plan) → IsCertifiedSetting g → IsPlanOf g plan → IsSoundPlan g plan

-- for each output the table of its meanings over its domain, and nothing else
module _ (g : Setting) where
  abbrev pub RoleMeanings : Role → ℕ → Variable → Tables → Type 0
  RoleMeanings Input x variable values = get values x ≡ None
  RoleMeanings Output x variable values = MatchOption (get values x) ⊥ (IsMeaningTable g.program g.tables g.params x variable)
  RoleMeanings Local x variable values = get values x ≡ None

  abbrev pub AreOutputMeanings : Tables → Type 0
  AreOutputMeanings values = (x : ℕ) → MatchOption (slice_get g.program.variables x) (get values x ≡ None) (λ variable. RoleMeanings variable.role x variable values)

abbrev pub OutputsAreMeanings : Type 0
OutputsAreMeanings =
    (g : Setting) (plan : Plan) → IsCertifiedSetting g → IsPlanOf g plan → (s : State) → IsGoodState g plan s → has_ended plan s ≡ true →
    (values : Tables) → AreOutputWords g plan s.cells values → AreOutputMeanings g values

-- in a state each load finds the value of the instance that it names, whatever was stored in the cell before; and if
-- all is done the outputs have their values
pub record KeepsValues (g : Setting) (plan : Plan) (s : State) : Type 0 where
  pub loads :
      (k tile number : ℕ) (values : List ℤ) → Works s k tile number values → (w : Work) → Stands plan (place s.wave tile number) w →
      (load : Load) → slice_get w.loads (length values) ≡ Some load → InstanceMeans g load.named (word s load.cell)
  pub outputs : has_ended plan s ≡ true → (values : Tables) → AreOutputWords g plan s.cells values → AreOutputMeanings g values

-- whatever the number of workers, and whatever happens in whatever order
abbrev pub EveryRunKeepsValues : Type 0
EveryRunKeepsValues =
    (g : Setting) (plan : Plan) → IsCertifiedSetting g → IsPlanOf g plan → (workers : ℕ) (events : List Event) → KeepsValues g plan (after_all plan events (start plan workers))
