-- What a call answers that makes equations: the stated ones where their entries are in range, else `Entry`; want of
-- memory may stand for either.
use Rattle.std.specs.Prelude.{◌≡◌, List, map, Option, option_map, Result, Ok, Err}
use Rattle.az_lin.specs.declared.fault.LinFault.{LinFault}
use Rattle.az_lin.specs.declared.fault.LinFault.TheVariants.{Entry, NoInverse, Overflow, Memory}
use Rattle.az_ast.specs.declared.program.Equation.{Equation}
use Rattle.rewriting.specs.Definitions.{Definition, definition_of}

-- an equation, or none where it is left out
abbrev pub IsEquation : Option Definition → Type 0 → Result (Option Equation) LinFault → Type 0
IsEquation d fits (Ok made) = (option_map definition_of made ≡ d) × fits
IsEquation d fits (Err Entry) = fits → ⊥
IsEquation d fits (Err (NoInverse _)) = ⊥
IsEquation d fits (Err Overflow) = ⊥
IsEquation d fits (Err Memory) = Unit {0}

abbrev pub AreEquations : List Definition → Type 0 → Result (List Equation) LinFault → Type 0
AreEquations ds fits (Ok made) = (map definition_of made ≡ ds) × fits
AreEquations ds fits (Err Entry) = fits → ⊥
AreEquations ds fits (Err (NoInverse _)) = ⊥
AreEquations ds fits (Err Overflow) = ⊥
AreEquations ds fits (Err Memory) = Unit {0}
