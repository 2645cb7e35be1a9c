-- The laws of carrying out a plan, one for each kind of event. The premises speak of one worker, so that who knows
-- nothing but its own place can use them.
use Rattle.std.specs.Prelude.{◌≡◌, ℕ, suc, ◌<◌, ℤ, List, true, false, length, slice_get, Some}
use Rattle.execution.specs.Events.{is_enabled, after, after_all}
use Rattle.execution.specs.Plans.{Load, Work, Plan, place, Stands}
use Rattle.execution.specs.Progress.{work_left, IsAmong}
use Rattle.execution.specs.Setting.{Setting, InstanceMeans, IsOutputInstance, IsSoundPlan, IsGoodState}
use Rattle.execution.specs.States.{resting, State, start, word, Works, all_true, has_ended}
use Rattle.execution.specs.declared.event.Event.{Event}
use Rattle.execution.specs.declared.event.Event.TheVariants as event
use Rattle.execution.specs.declared.place.Place.{Place}

abbrev pub StartIsGood : Type 0
StartIsGood = (g : Setting) (plan : Plan) → IsSoundPlan g plan → (workers : ℕ) → IsGoodState g plan (start plan workers)

abbrev pub ClaimKeepsGood : Type 0
ClaimKeepsGood =
    (g : Setting) (plan : Plan) → IsSoundPlan g plan → (s : State) → IsGoodState g plan s → (k : ℕ) → slice_get s.workers k ≡ Some resting →
    IsGoodState g plan (after plan (event.Claim k) s)

abbrev pub LoadKeepsGood : Type 0
LoadKeepsGood =
    (g : Setting) (plan : Plan) → IsSoundPlan g plan → (s : State) → IsGoodState g plan s →
    (k tile number : ℕ) (values : List ℤ) → Works s k tile number values → (w : Work) → Stands plan (place s.wave tile number) w →
    length values < length w.loads → IsGoodState g plan (after plan (event.Load k) s)

-- whatever was stored into the cell before
abbrev pub LoadFindsTheMeaning : Type 0
LoadFindsTheMeaning =
    (g : Setting) (plan : Plan) → IsSoundPlan g plan → (s : State) → IsGoodState g plan s →
    (k tile number : ℕ) (values : List ℤ) → Works s k tile number values → (w : Work) → Stands plan (place s.wave tile number) w →
    (load : Load) → slice_get w.loads (length values) ≡ Some load → InstanceMeans g load.named (word s load.cell)

abbrev pub StoreKeepsGood : Type 0
StoreKeepsGood =
    (g : Setting) (plan : Plan) → IsSoundPlan g plan → (s : State) → IsGoodState g plan s →
    (k tile number : ℕ) (values : List ℤ) → Works s k tile number values → (w : Work) → Stands plan (place s.wave tile number) w →
    length values ≡ length w.loads → IsGoodState g plan (after plan (event.Store k) s)

abbrev pub NextKeepsGood : Type 0
NextKeepsGood =
    (g : Setting) (plan : Plan) → IsSoundPlan g plan → (s : State) → IsGoodState g plan s → all_true s.finished ≡ true → suc s.wave < length plan.waves →
    IsGoodState g plan (after plan event.Next s)

-- any event, enabled or not
abbrev pub EventKeepsGood : Type 0
EventKeepsGood = (g : Setting) (plan : Plan) → IsSoundPlan g plan → (s : State) → IsGoodState g plan s → (e : Event) → IsGoodState g plan (after plan e s)

abbrev pub EndedHasOutputs : Type 0
EndedHasOutputs =
    (g : Setting) (plan : Plan) → IsSoundPlan g plan → (s : State) → IsGoodState g plan s → has_ended plan s ≡ true →
    (p : Place) (w : Work) → Stands plan p w → IsOutputInstance g w.instance → InstanceMeans g w.instance (word s w.cell)

abbrev pub EnabledEventsFall : Type 0
EnabledEventsFall = (plan : Plan) (s : State) (e : Event) → is_enabled plan e s ≡ true → work_left plan (after plan e s) < work_left plan s

abbrev pub SomeTurnIsEnabled : Type 0
SomeTurnIsEnabled =
    (g : Setting) (plan : Plan) → IsSoundPlan g plan → (s : State) → IsGoodState g plan s → 0 < length s.workers → has_ended plan s ≡ false →
    (e : Event) × (is_enabled plan e s ≡ true) × IsAmong (length s.workers) e

-- every list of events
abbrev pub EveryRunIsGood : Type 0
EveryRunIsGood = (g : Setting) (plan : Plan) → IsSoundPlan g plan → (workers : ℕ) (events : List Event) → IsGoodState g plan (after_all plan events (start plan workers))
