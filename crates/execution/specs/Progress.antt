-- What is left to do in a state: a number that each enabled event lowers.
--
-- An instance has a load for each word that it needs, and a store; a tile is to be claimed; a worker has to find once
-- in each wave that no tile is left.
use Rattle.std.specs.Prelude.{ℕ, suc, ◌+◌, ◌-◌, ◌<◌, List, [], ◌∷◌, length, drop}
use Rattle.execution.specs.Plans.{Work, Plan, tiles_of, works_of}
use Rattle.execution.specs.States.{Worker, resting, exhausted, working, State}
use Rattle.execution.specs.declared.event.Event.{Event}
use Rattle.execution.specs.declared.event.Event.TheVariants.{Claim, Load, Store, Next}

abbrev pub works_left : List Work → ℕ
works_left [] = 0
works_left (w ∷ works) = suc (length w.loads) + works_left works

abbrev pub tiles_left : List (List Work) → ℕ
tiles_left [] = 0
tiles_left (tile ∷ tiles) = suc (works_left tile) + tiles_left tiles

abbrev pub waves_left : ℕ → List (List (List Work)) → ℕ
waves_left workers [] = 0
waves_left workers (wave ∷ waves) = suc (workers + tiles_left wave) + waves_left workers waves

abbrev pub worker_left : Plan → ℕ → Worker → ℕ
worker_left plan wave resting = 1
worker_left plan wave exhausted = 0
worker_left plan wave (working tile number values) = suc (works_left (drop number (works_of plan wave tile)) - length values)

abbrev pub workers_left : Plan → ℕ → List Worker → ℕ
workers_left plan wave [] = 0
workers_left plan wave (worker ∷ workers) = worker_left plan wave worker + workers_left plan wave workers

abbrev pub work_left : Plan → State → ℕ
work_left plan s =
    waves_left (length s.workers) (drop (suc s.wave) plan.waves) + (tiles_left (drop s.counter (tiles_of plan s.wave)) + workers_left plan s.wave s.workers)

-- the event is one of so many workers, or the next wave
abbrev pub IsAmong : ℕ → Event → Type 0
IsAmong workers (Claim k) = k < workers
IsAmong workers (Load k) = k < workers
IsAmong workers (Store k) = k < workers
IsAmong workers Next = Unit {0}
