-- The parts that tests put together.
use Rattle.std.specs.Prelude.{ℕ, ◌<◌, List, [], ◌∷◌}
use Rattle.az_lin.specs.Affine.{Union}
use Rattle.az_ast.specs.declared.program.Equation.{Equation}
use Rattle.az_ast.specs.declared.program.Role.TheVariants.{Input, Output}
use Rattle.az_ast.specs.declared.program.Variable.{Variable}
use Rattle.az_ast.specs.Placed.{IsAtWidth}
use Rattle.az_ast.specs.Term.{term}

-- all points of so many coordinates
abbrev pub space : ℕ → Union
space width = record { width = width; disjuncts = record { width = width; rows = [] } ∷ [] }

-- an equation of one of two variables, both of one index
abbrev pub IsOfTwo : Equation → Type 0
IsOfTwo equation = (equation.variable < 2) × IsAtWidth 2 (term equation.body) 1

-- an input and an output of one index, without parameters
abbrev pub input_and_output : List ℕ → List ℕ → List Variable
input_and_output a x = record { name = a; role = Input; domain = space 1 } ∷ record { name = x; role = Output; domain = space 1 } ∷ []

-- an output alone
abbrev pub output : Union → List Variable
output domain = record { name = 88 ∷ []; role = Output; domain = domain } ∷ []
