-- A plan of two waves, and a run of it that was carried out by hand. The first wave has two tiles, whose instances are
-- the constants 3 and 4; the second has one, which is the 4 again and is stored where the 3 was.
use Rattle.std.specs.Prelude.{◌≡◌, ℕ, pos, true, List, [], ◌∷◌}
use Rattle.execution.specs.Events.{after_all}
use Rattle.execution.specs.Plans.{Work, Plan}
use Rattle.execution.specs.States.{resting, State, start, has_ended}
use Rattle.execution.specs.declared.event.Event.{Event}
use Rattle.execution.specs.declared.event.Event.TheVariants as event
use Rattle.execution.specs.declared.instance.Instance.{Instance}
use Rattle.execution.specs.declared.step.Step.TheVariants.{Constant, Loaded}

abbrev pub instance : ℕ → Instance
instance x = record { variable = x; point = [] }

abbrev pub constant_work : ℕ → ℕ → ℕ → Work
constant_work x cell value = record { instance = instance x; loads = []; cell = cell; steps = Constant ∷ []; constants = pos value ∷ [] }

abbrev pub copy_work : Work
copy_work = record { instance = instance 2; loads = record { named = instance 1; cell = 1 } ∷ []; cell = 0; steps = Loaded ∷ []; constants = [] }

abbrev pub plan : Plan
plan = record { waves = ((constant_work 0 0 3 ∷ []) ∷ (constant_work 1 1 4 ∷ []) ∷ []) ∷ ((copy_work ∷ []) ∷ []) ∷ []; cells = 2 }

-- worker 1 stores first; worker 0 then finds no tile; an event that isn't enabled changes nothing
abbrev pub events : List Event
events =
    event.Claim 0 ∷ event.Claim 1 ∷ event.Load 0 ∷ event.Next ∷ event.Store 1 ∷ event.Store 0 ∷ event.Claim 0
    ∷ event.Next ∷ event.Claim 1 ∷ event.Store 1 ∷ event.Load 1 ∷ event.Load 1 ∷ event.Store 1 ∷ event.Next ∷ []

abbrev pub last : State
last = record { wave = 1; counter = 1; cells = pos 4 ∷ pos 4 ∷ []; finished = true ∷ []; workers = resting ∷ resting ∷ [] }

pub record ExampleRuns : Type 0 where
  pub run : after_all plan events (start plan 2) ≡ last
  pub ended : has_ended plan last ≡ true
