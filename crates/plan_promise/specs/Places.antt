-- Where an instance stands in a plan.
use Rattle.std.specs.Prelude.{◌≡◌, ℕ, ℤ, List, Option, Some, None}
use Rattle.execution.specs.Plans.{Work, Plan, Stands}
use Rattle.execution.specs.declared.instance.Instance.{Instance}
use Rattle.execution.specs.declared.place.Place.{Place}

abbrev pub PlaceAnswers : Plan → Instance → Option Place → Type 0
PlaceAnswers plan u (Some q) = (w : Work) × Stands plan q w × (w.instance ≡ u)
PlaceAnswers plan u None = (q : Place) (w : Work) → Stands plan q w → w.instance ≡ u → ⊥
