-- Steps that a stack with so much room carries out: each finds its constant, its loaded value or its operands, and
-- place for what it leaves.
use Rattle.std.specs.Prelude.{ℕ, ◌+◌, ◌-◌, ◌<◌, List, [], ◌∷◌}
use Rattle.execution.specs.declared.step.Step.{Step}
use Rattle.execution.specs.declared.step.Step.TheVariants.{Constant, Loaded, Negated, Binary}

-- from a stack of this height, with so many constants and loaded values left
abbrev pub Runs : ℕ → List Step → ℕ → ℕ → ℕ → Type 0
Runs room [] constants loaded height = Unit {0}
Runs room (Constant ∷ steps) constants loaded height = (0 < constants) × (height < room) × Runs room steps (constants - 1) loaded (height + 1)
Runs room (Loaded ∷ steps) constants loaded height = (0 < loaded) × (height < room) × Runs room steps constants (loaded - 1) (height + 1)
Runs room (Negated ∷ steps) constants loaded height = (0 < height) × Runs room steps constants loaded height
Runs room (Binary op ∷ steps) constants loaded height = (1 < height) × Runs room steps constants loaded (height - 1)
