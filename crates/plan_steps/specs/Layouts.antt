-- The steps of a body, with what they work on.
use Rattle.std.specs.Prelude.{ℕ, ◌+◌, ℤ, List, [], ◌∷◌, ◌++◌, map}
use Rattle.std.specs.List.{zip}
use Rattle.execution.specs.declared.instance.Instance.{Instance}
use Rattle.execution.specs.declared.step.Step.{Step}
use Rattle.execution.specs.declared.step.Step.TheVariants.{Constant, Loaded}
use Rattle.plan_words.specs.Makes.{Find}

-- the constants and the instances that are loaded stand in the order in which the steps take them; the points are
-- those of reductions
pub record Layout : Type 0 where
  pub steps : List Step
  pub constants : List ℤ
  pub loads : List Instance
  pub points : ℕ

abbrev pub empty : Layout
empty = record { steps = []; constants = []; loads = []; points = 0 }

-- one after the other
abbrev pub joined : Layout → Layout → Layout
joined a b = record { steps = a.steps ++ b.steps; constants = a.constants ++ b.constants; loads = a.loads ++ b.loads; points = a.points + b.points }

-- with one thing more
abbrev pub with_constant : Layout → ℤ → Layout
with_constant l v = record l { steps = l.steps ++ Constant ∷ []; constants = l.constants ++ v ∷ [] }

abbrev pub with_load : Layout → Instance → Layout
with_load l u = record l { steps = l.steps ++ Loaded ∷ []; loads = l.loads ++ u ∷ [] }

abbrev pub with_step : Layout → Step → Layout
with_step l step = record l { steps = l.steps ++ step ∷ [] }

abbrev pub with_point : Layout → Layout
with_point l = record l { points = l.points + 1 }

-- the instances and the value that was found for each
abbrev pub finds_at : List Instance → List ℤ → List Find
finds_at loads found = map (λ both. record { named = both.0; value = both.1 }) (zip loads found)
