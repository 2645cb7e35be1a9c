-- What the order of execution rests on: a plan in which each load comes after what it names and before its cell is
-- used anew.
--
-- The words of the subject are parameters here: which value an instance means, which instance is carried out before
-- which, and which ones are outputs.
use Rattle.std.specs.Prelude.{◌≡◌, ℕ, ◌<◌, ◌⊎◌, ℤ, List, [], ◌∷◌, length, slice_get, Some}
use Rattle.execution.specs.Plans.{Load, Work, Plan, tiles_of, works_of, Stands, value_of, IsEarlier}
use Rattle.execution.specs.declared.instance.Instance.{Instance}
use Rattle.execution.specs.declared.place.Place.{Place}

-- the values are those of the instances that the first loads name
module _ (means : Instance → ℤ → Type 0) where
  abbrev pub AreFound : List Load → List ℤ → Type 0
  AreFound loads [] = Unit {0}
  AreFound [] (v ∷ values) = ⊥
  AreFound (load ∷ loads) (v ∷ values) = means load.named v × AreFound loads values

module _ (means : Instance → ℤ → Type 0) (before : Instance → Instance → Type 0) (output : Instance → Type 0) (plan : Plan) where
  pub record IsSound : Type 0 where
    -- each instance stands once, and the order of places respects the order of instances
    pub once : (p q : Place) (v w : Work) → Stands plan p v → Stands plan q w → v.instance ≡ w.instance → p ≡ q
    pub order : (p q : Place) (v w : Work) → Stands plan p v → Stands plan q w → before v.instance w.instance → IsEarlier p q
    -- a load names an instance of the plan with its cell, which is before the loading one
    pub named :
        (p : Place) (w : Work) → Stands plan p w → (j : ℕ) (load : Load) → slice_get w.loads j ≡ Some load →
        (q : Place) × (v : Work) × Stands plan q v × (v.instance ≡ load.named) × (v.cell ≡ load.cell)
    pub dependence : (p : Place) (w : Work) → Stands plan p w → (j : ℕ) (load : Load) → slice_get w.loads j ≡ Some load → before load.named w.instance
    -- what else is stored into that cell is before the named instance, or isn't before the loading one is done
    pub lifetime :
        (p : Place) (w : Work) → Stands plan p w → (j : ℕ) (load : Load) → slice_get w.loads j ≡ Some load →
        (q : Place) (v : Work) → Stands plan q v → v.cell ≡ load.cell →
        ((v.instance ≡ load.named) ⊎ before v.instance load.named) ⊎ ((v.instance ≡ w.instance) ⊎ before w.instance v.instance)
    pub outputs :
        (p : Place) (w : Work) → Stands plan p w → output w.instance →
        (q : Place) (v : Work) → Stands plan q v → v.cell ≡ w.cell → (v.instance ≡ w.instance) ⊎ before v.instance w.instance
    -- from the values of all loads the body makes the instance's value
    pub values : (p : Place) (w : Work) → Stands plan p w → (loaded : List ℤ) → length loaded ≡ length w.loads → AreFound means w.loads loaded → means w.instance (value_of w loaded)
    pub room : (p : Place) (w : Work) → Stands plan p w → w.cell < plan.cells
    pub tiles : (wave tile : ℕ) → tile < length (tiles_of plan wave) → 0 < length (works_of plan wave tile)
