-- A stack in an array, and how far the constants and loaded values are taken.
use Rattle.std.specs.Prelude.{ℕ, zero, suc, ◌+◌, ◌-◌, ◌<◌, ℤ, pos, List, [], ◌∷◌, drop, get_or}
use Rattle.execution.specs.Bodies.{Machine}
use Rattle.execution.specs.declared.step.Step.{Step}
use Rattle.execution.specs.declared.step.Step.TheVariants.{Constant, Loaded, Negated, Binary}
use Rattle.plan_steps.specs.declared.machine.Cursor.{Cursor}

-- the first values of the array, the last one on top
abbrev pub stacked : ℕ → List ℤ → List ℤ
stacked zero values = []
stacked (suc height) values = get_or values height (pos 0) ∷ stacked height values

abbrev pub machine_at : Cursor → List ℤ → List ℤ → List ℤ → Machine
machine_at cursor constants loaded values =
    record { constants = drop cursor.next constants; loaded = drop cursor.taken loaded; stack = stacked cursor.height values }

-- a step that finds what it takes and place for what it leaves
abbrev pub CanMove : Step → Cursor → ℕ → ℕ → ℕ → Type 0
CanMove Constant cursor constants loaded room = (cursor.next < constants) × (cursor.height < room)
CanMove Loaded cursor constants loaded room = (cursor.taken < loaded) × (cursor.height < room)
CanMove Negated cursor constants loaded room = (0 < cursor.height) × (cursor.height < room + 1)
CanMove (Binary op) cursor constants loaded room = (1 < cursor.height) × (cursor.height < room + 1)

abbrev pub moved_on : Step → Cursor → Cursor
moved_on Constant cursor = record { next = cursor.next + 1; taken = cursor.taken; height = cursor.height + 1 }
moved_on Loaded cursor = record { next = cursor.next; taken = cursor.taken + 1; height = cursor.height + 1 }
moved_on Negated cursor = cursor
moved_on (Binary op) cursor = record { next = cursor.next; taken = cursor.taken; height = cursor.height - 1 }
