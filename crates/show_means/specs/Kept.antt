-- What is written of a program with names means that program, where names that stand side by side differ and
-- the indices are few.
use Rattle.std.specs.Prelude.{◌≡◌, ◌≤◌, ℕ, false, List, ◌++◌, length, map}
use Rattle.std.specs.List.{AllByRecursion}
use Rattle.az_ast.specs.declared.program.Equation.{Equation}
use Rattle.az_ast.specs.declared.program.Variable.{Variable}
use Rattle.az_ast.specs.Shapes.{has_twice, stands_under_many, IsProgram}
use Rattle.az_ast.specs.Shapes as shapes
use Rattle.az_ast.specs.System.{System}
use Rattle.alphabets_show.specs.Sides.{Names, indices}
use Rattle.program_names.specs.Resolved.{system_of}
use Rattle.show_grammar.specs.WrittenOf.{written_of}

-- the names of the columns of a place under so many indices, and those of the variables
abbrev pub columns : Names → ℕ → Names
columns params count = params ++ indices 0 count

abbrev pub names_of : List Variable → Names
names_of variables = map (λ (v : Variable). v.name) variables

pub record IsKept (p : System) : Type 0 where
  pub scopes : (count : ℕ) → count ≤ 16 → has_twice (columns p.params count) ≡ false
  pub names : has_twice (names_of p.variables) ≡ false
  pub few : AllByRecursion (λ (v : Variable). shapes.indices (length p.params) v ≤ 8) p.variables
  pub under : AllByRecursion (λ (e : Equation). stands_under_many (length p.params) p.variables e ≡ false) p.equations

abbrev pub WrittenMeansTheProgram : Type 0
WrittenMeansTheProgram = (p : System) → IsProgram p → IsKept p → system_of (written_of p) ≡ p
