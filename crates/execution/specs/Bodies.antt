-- The value of a body that is a list of steps: each step works on a stack, and the value is what stands on top at
-- the end. Constants and loaded values are taken in order.
use Rattle.std.specs.Prelude.{ℤ, pos, List, [], ◌∷◌, get_or, drop}
use Rattle.az_ast.specs.Operators.{applied}
use Rattle.az_ast.specs.declared.op.Op.TheVariants.{Sub}
use Rattle.execution.specs.declared.step.Step.{Step}
use Rattle.execution.specs.declared.step.Step.TheVariants.{Constant, Loaded, Negated, Binary}

pub record Machine : Type 0 where
  pub constants : List ℤ
  pub loaded : List ℤ
  pub stack : List ℤ

abbrev pub top : List ℤ → ℤ
top values = get_or values 0 (pos 0)

abbrev pub below_top : List ℤ → ℤ
below_top values = get_or values 1 (pos 0)

abbrev pub moved : Step → Machine → Machine
moved Constant m = record { constants = drop 1 m.constants; loaded = m.loaded; stack = top m.constants ∷ m.stack }
moved Loaded m = record { constants = m.constants; loaded = drop 1 m.loaded; stack = top m.loaded ∷ m.stack }
moved Negated m = record { constants = m.constants; loaded = m.loaded; stack = applied Sub (pos 0) (top m.stack) ∷ drop 1 m.stack }
moved (Binary op) m = record { constants = m.constants; loaded = m.loaded; stack = applied op (below_top m.stack) (top m.stack) ∷ drop 2 m.stack }

abbrev pub run : List Step → Machine → Machine
run [] m = m
run (step ∷ steps) m = run steps (moved step m)

abbrev pub body_value : List Step → List ℤ → List ℤ → ℤ
body_value steps constants loaded = top (run steps (record { constants = constants; loaded = loaded; stack = [] })).stack
