-- The states that carrying out a plan goes through.
--
-- A worker has no tile, or has found that all tiles of the wave are taken, or works at an instance of a tile with
-- the values that it has loaded for it.
use Rattle.std.specs.Prelude.{◌≡◌, ℕ, suc, ◌<◌, nat_le, ℤ, pos, Bool, true, false, ◌&&◌, List, [], ◌∷◌, length, get_or, replicate, slice_get, Some}
use Rattle.execution.specs.Plans.{Plan, tiles_of}
use Rattle.execution.specs.declared.place.Place.{Place}

pub data Worker : Type 0 where
  resting : Worker
  exhausted : Worker
  working : (tile number : ℕ) → (values : List ℤ) → Worker

-- the counter is the number of the next tile of the wave that is claimed
pub record State : Type 0 where
  pub wave : ℕ
  pub counter : ℕ
  pub cells : List ℤ
  pub finished : List Bool
  pub workers : List Worker

abbrev pub word : State → ℕ → ℤ
word s cell = get_or s.cells cell (pos 0)

abbrev pub is_finished : State → ℕ → Bool
is_finished s tile = get_or s.finished tile false

abbrev pub Works : State → ℕ → ℕ → ℕ → List ℤ → Type 0
Works s k tile number values = slice_get s.workers k ≡ Some (working tile number values)

-- an instance has been carried out: it stands in an earlier wave, in a finished tile of this one, or before the
-- instance at which a worker works in its tile
pub data IsStored (s : State) (p : Place) : Type 0 where
  in_earlier_wave : p.wave < s.wave → IsStored s p
  in_finished_tile : p.wave ≡ s.wave → is_finished s p.tile ≡ true → IsStored s p
  behind_worker : p.wave ≡ s.wave → (k number : ℕ) → (values : List ℤ) → Works s k p.tile number values → p.number < number → IsStored s p

abbrev pub start : Plan → ℕ → State
start plan workers = record {
  wave = 0;
  counter = 0;
  cells = replicate plan.cells (pos 0);
  finished = replicate (length (tiles_of plan 0)) false;
  workers = replicate workers resting;
}

abbrev pub all_true : List Bool → Bool
all_true [] = true
all_true (b ∷ bs) = b && all_true bs

-- nothing is left to do: no wave follows, and all tiles are finished
abbrev pub has_ended : Plan → State → Bool
has_ended plan s = nat_le (length plan.waves) (suc s.wave) && all_true s.finished
