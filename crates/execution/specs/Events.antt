-- What may happen in a state, and what is left then.
--
-- A worker without a tile claims the next one, or finds that there is none left; a worker with a tile loads what
-- its instance needs, one word after the other, and then stores its value; and when all tiles of a wave are
-- finished the next wave begins.
use Rattle.std.specs.Prelude.{ℕ, suc, nat_eq, nat_lt, Bool, true, false, ◌&&◌, if◌then◌else◌, ℤ, List, [], ◌∷◌, ◌++◌, length, set, replicate, map, slice_get, Option, Some, None, option_map}
use Rattle.std.specs.Option.{option_map_or}
use Rattle.execution.specs.Plans.{Plan, Work, tiles_of, works_of, value_of}
use Rattle.execution.specs.States.{Worker, resting, exhausted, working, State, word, all_true}
use Rattle.execution.specs.declared.event.Event.{Event}
use Rattle.execution.specs.declared.event.Event.TheVariants.{Claim, Load, Store, Next}

-- what a worker is at
pub record Current : Type 0 where
  pub tile : ℕ
  pub number : ℕ
  pub values : List ℤ
  pub work : Work

abbrev pub current_of : Plan → ℕ → Option Worker → Option Current
current_of plan wave None = None
current_of plan wave (Some resting) = None
current_of plan wave (Some exhausted) = None
current_of plan wave (Some (working tile number values)) =
    option_map (λ work. record { tile = tile; number = number; values = values; work = work }) (slice_get (works_of plan wave tile) number)

abbrev pub current : Plan → State → ℕ → Option Current
current plan s k = current_of plan s.wave (slice_get s.workers k)

abbrev pub is_resting : Option Worker → Bool
is_resting None = false
is_resting (Some resting) = true
is_resting (Some exhausted) = false
is_resting (Some (working tile number values)) = false

abbrev pub has_load : Option Current → Bool
has_load None = false
has_load (Some c) = nat_lt (length c.values) (length c.work.loads)

abbrev pub has_all_loads : Option Current → Bool
has_all_loads None = false
has_all_loads (Some c) = nat_eq (length c.values) (length c.work.loads)

unfoldable pub is_enabled : Plan → Event → State → Bool
is_enabled plan (Claim k) s = is_resting (slice_get s.workers k)
is_enabled plan (Load k) s = has_load (current plan s k)
is_enabled plan (Store k) s = has_all_loads (current plan s k)
is_enabled plan Next s = all_true s.finished && nat_lt (suc s.wave) (length plan.waves)

abbrev pub with_worker : State → ℕ → Worker → State
with_worker s k worker = record s { workers = set s.workers k worker }

abbrev pub claimed : Plan → ℕ → State → State
claimed plan k s =
    record (with_worker s k (if nat_lt s.counter (length (tiles_of plan s.wave)) then working s.counter 0 [] else exhausted)) { counter = suc s.counter }

abbrev pub cell_of_load : Work → ℕ → ℕ
cell_of_load w j = option_map_or (λ load. load.cell) (slice_get w.loads j) 0

abbrev pub loaded : ℕ → State → Current → State
loaded k s c = with_worker s k (working c.tile c.number (c.values ++ word s (cell_of_load c.work (length c.values)) ∷ []))

-- the worker goes on to the next instance, or its tile is finished
abbrev pub gone_on : ℕ → State → Current → State
gone_on k s c = with_worker s k (working c.tile (suc c.number) [])

abbrev pub tile_finished : ℕ → State → Current → State
tile_finished k s c = record (with_worker s k resting) { finished = set s.finished c.tile true }

abbrev pub with_value : State → Current → State
with_value s c = record s { cells = set s.cells c.work.cell (value_of c.work c.values) }

abbrev pub stored : Plan → ℕ → State → Current → State
stored plan k s c =
    if nat_lt (suc c.number) (length (works_of plan s.wave c.tile)) then gone_on k (with_value s c) c else tile_finished k (with_value s c) c

-- nobody has a tile where a wave is done, and nobody is exhausted in the next one
abbrev pub next_wave : Plan → State → State
next_wave plan s = record {
  wave = suc s.wave;
  counter = 0;
  cells = s.cells;
  finished = replicate (length (tiles_of plan (suc s.wave))) false;
  workers = map (λ worker. resting) s.workers;
}

abbrev pub effect : Plan → Event → State → State
effect plan (Claim k) s = claimed plan k s
effect plan (Load k) s = option_map_or (loaded k s) (current plan s k) s
effect plan (Store k) s = option_map_or (stored plan k s) (current plan s k) s
effect plan Next s = next_wave plan s

-- the state after an event; one that isn't enabled changes nothing
unfoldable pub after : Plan → Event → State → State
after plan event s = if is_enabled plan event s then effect plan event s else s

-- the state after a list of events, one after another
abbrev pub after_all : Plan → List Event → State → State
after_all plan [] s = s
after_all plan (event ∷ events) s = after_all plan events (after plan event s)
