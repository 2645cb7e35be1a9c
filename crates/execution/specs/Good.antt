-- What holds in every state: each word that is still to be loaded holds the value of the very instance that the load
-- names, however often the cell was used before.
use Rattle.std.specs.Prelude.{◌≡◌, ℕ, ◌+◌, ◌<◌, ◌≤◌, ◌⊎◌, ℤ, pos, true, false, List, [], ◌∷◌, length, slice_get, Some}
use Rattle.execution.specs.Plans.{Load, Work, Plan, tiles_of, works_of, place, Stands}
use Rattle.execution.specs.Sound.{AreFound}
use Rattle.execution.specs.States.{Worker, resting, exhausted, working, State, word, is_finished, Works, IsStored}
use Rattle.execution.specs.declared.instance.Instance.{Instance}
use Rattle.execution.specs.declared.place.Place.{Place}

abbrev pub is_exhausted : Worker → ℕ
is_exhausted resting = 0
is_exhausted exhausted = 1
is_exhausted (working tile number values) = 0

abbrev pub exhausted_count : List Worker → ℕ
exhausted_count [] = 0
exhausted_count (worker ∷ workers) = is_exhausted worker + exhausted_count workers

-- the counter tells which tiles are taken: each one that is taken and not finished is the tile of one worker
pub record IsKept (plan : Plan) (s : State) : Type 0 where
  pub wave : (s.wave ≡ 0) ⊎ (s.wave < length plan.waves)
  pub cells : length s.cells ≡ plan.cells
  pub tiles : length s.finished ≡ length (tiles_of plan s.wave)
  pub within : (k tile number : ℕ) (values : List ℤ) → Works s k tile number values → number < length (works_of plan s.wave tile)
  pub taken : (k tile number : ℕ) (values : List ℤ) → Works s k tile number values → tile < s.counter
  pub unfinished : (k tile number : ℕ) (values : List ℤ) → Works s k tile number values → is_finished s tile ≡ false
  pub alone : (j k tile number other : ℕ) (values others : List ℤ) → Works s j tile number values → Works s k tile other others → j ≡ k
  pub claimed : (tile : ℕ) → is_finished s tile ≡ true → tile < s.counter
  pub owned : (tile : ℕ) → tile < s.counter → tile < length (tiles_of plan s.wave) → is_finished s tile ≡ false → (k : ℕ) × (number : ℕ) × (values : List ℤ) × Works s k tile number values
  pub exhausted_late : (k : ℕ) → slice_get s.workers k ≡ Some exhausted → length (tiles_of plan s.wave) ≤ s.counter
  pub count : s.counter ≤ length (tiles_of plan s.wave) + exhausted_count s.workers

-- load `j` of the instance at this place hasn't been made
abbrev pub IsToMake : State → Place → ℕ → Type 0
IsToMake s p j = (k : ℕ) (values : List ℤ) → p.wave ≡ s.wave → Works s k p.tile p.number values → length values ≤ j

module _ (means : Instance → ℤ → Type 0) (before : Instance → Instance → Type 0) (output : Instance → Type 0) (plan : Plan) where
  -- nothing was stored into a cell, or it holds the value of an instance that was
  abbrev pub IsBlank : State → ℕ → Type 0
  IsBlank s cell = (word s cell ≡ pos 0) × ((p : Place) (w : Work) → Stands plan p w → w.cell ≡ cell → IsStored s p → ⊥)

  abbrev pub HoldsSome : State → ℕ → Type 0
  HoldsSome s cell = (p : Place) × (w : Work) × Stands plan p w × (w.cell ≡ cell) × IsStored s p × means w.instance (word s cell)

  pub record IsGood (s : State) : Type 0 where
    pub kept : IsKept plan s
    pub cells : (cell : ℕ) → cell < plan.cells → IsBlank s cell ⊎ HoldsSome s cell
    -- a load that is still to be made finds the value of what it names, once that is stored
    pub loads :
        (p : Place) (w : Work) → Stands plan p w → (IsStored s p → ⊥) → (j : ℕ) (load : Load) → slice_get w.loads j ≡ Some load → IsToMake s p j →
        (q : Place) (v : Work) → Stands plan q v → v.instance ≡ load.named → IsStored s q → means load.named (word s load.cell)
    pub outputs : (p : Place) (w : Work) → Stands plan p w → output w.instance → IsStored s p → means w.instance (word s w.cell)
    pub values :
        (k tile number : ℕ) (values : List ℤ) → Works s k tile number values → (w : Work) → Stands plan (place s.wave tile number) w →
        AreFound means w.loads values
    -- what is before a stored instance, or before one at which a worker works, is stored
    pub passed : (p : Place) (w : Work) → Stands plan p w → IsStored s p → (q : Place) (v : Work) → Stands plan q v → before v.instance w.instance → IsStored s q
    pub reached :
        (k tile number : ℕ) (values : List ℤ) → Works s k tile number values → (w : Work) → Stands plan (place s.wave tile number) w →
        (q : Place) (v : Work) → Stands plan q v → before v.instance w.instance → IsStored s q
