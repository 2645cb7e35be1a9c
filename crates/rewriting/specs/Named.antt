-- Variables by their names, and calls that name one.
use Rattle.std.specs.Prelude.{ℕ, List, [], slice_get, Option, position, Result, MatchOption}
use Rattle.std.specs.Option.{option_map_or}
use Rattle.std.specs.Str.{bytes_eq}
use Rattle.az_ast.specs.Meaning.{body_of}
use Rattle.az_ast.specs.Shapes.{of_variable}
use Rattle.az_ast.specs.System.{System}
use Rattle.az_ast.specs.declared.program.Role.{Role}
use Rattle.az_ast.specs.declared.program.Role.TheVariants.{Input, Output, Local}
use Rattle.az_ast.specs.declared.program.Variable.{Variable}
use Rattle.az_ast.specs.declared.reason.Reason.TheVariants.{Unknown}
use Rattle.rewriting.specs.Answers.{IsRefusedFor}
use Rattle.rewriting.specs.Reads.{reads}
use Rattle.rewriting.specs.declared.fault.ChangeFault.{ChangeFault}
use Rattle.std.specs.Prelude.{Bool, false, true}

abbrev pub number_of : System → List ℕ → Option ℕ
number_of p name = position (λ (variable : Variable). bytes_eq variable.name name) p.variables

abbrev pub name_of : System → ℕ → List ℕ
name_of p x = option_map_or (λ (variable : Variable). variable.name) (slice_get p.variables x) []

-- the answer for the variable with this name, and the refusal of a name that no variable has
abbrev pub ForNamed : System → List ℕ → (ℕ → Result System ChangeFault → Type 0) → Result System ChangeFault → Type 0
ForNamed p name answers result = MatchOption (number_of p name) (IsRefusedFor (Unknown name) result) (λ x. answers x result)

abbrev pub has_local_role : Role → Bool
has_local_role Input = false
has_local_role Output = false
has_local_role Local = true

abbrev pub is_local : System → ℕ → Bool
is_local p x = of_variable p.variables (λ variable. has_local_role variable.role) x

-- the variable's equation has an access to the other
abbrev pub is_read_by : System → ℕ → ℕ → Bool
is_read_by p x y = option_map_or (reads x) (body_of p.equations y) false
