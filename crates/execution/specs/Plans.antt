-- A plan: the instances of a program in the order in which they are carried out, with what each loads and where it
-- is stored.
--
-- Waves are carried out one after the other, the tiles of a wave at once and in any order, the instances of a tile
-- one after the other. Cells are numbered from 0.
use Rattle.std.specs.Prelude.{◌≡◌, ℕ, ◌<◌, ◌⊎◌, ℤ, List, [], get_or, slice_get, Some}
use Rattle.execution.specs.Bodies.{body_value}
use Rattle.execution.specs.declared.instance.Instance.{Instance}
use Rattle.execution.specs.declared.place.Place.{Place}
use Rattle.execution.specs.declared.step.Step.{Step}

-- a load: the instance whose value is wanted, and the cell where it is kept
pub record Load : Type 0 where
  pub named : Instance
  pub cell : ℕ

-- what is to be done for an instance
pub record Work : Type 0 where
  pub instance : Instance
  pub loads : List Load
  pub cell : ℕ
  pub steps : List Step
  pub constants : List ℤ

pub record Plan : Type 0 where
  pub waves : List (List (List Work))
  pub cells : ℕ

abbrev pub tiles_of : Plan → ℕ → List (List Work)
tiles_of plan wave = get_or plan.waves wave []

abbrev pub works_of : Plan → ℕ → ℕ → List Work
works_of plan wave tile = get_or (tiles_of plan wave) tile []

abbrev pub place : ℕ → ℕ → ℕ → Place
place wave tile number = record { wave = wave; tile = tile; number = number }

-- the work at a place
abbrev pub Stands : Plan → Place → Work → Type 0
Stands plan p w = slice_get (works_of plan p.wave p.tile) p.number ≡ Some w

-- the value of the instance's body, in which the loads have these values
abbrev pub value_of : Work → List ℤ → ℤ
value_of w loaded = body_value w.steps w.constants loaded

-- carried out earlier, whatever the number of workers and their speed
abbrev pub IsEarlier : Place → Place → Type 0
IsEarlier p q = (p.wave < q.wave) ⊎ ((p.wave ≡ q.wave) × (p.tile ≡ q.tile) × (p.number < q.number))
