-- The reads of an equation as they are lent.
use Rattle.std.proofs.Common.{◌≡◌, ◌∙◌, List, ap₂}
use Rattle.std.specs.Prelude.{filter_map}
use Rattle.az_ast.specs.System.{System}
use Rattle.az_ast.specs.declared.program.Equation.{Equation}
use Rattle.az_ast.specs.declared.program.Variable.{Variable}
use Rattle.expr_places.specs.Places.{Place, places_of}
use Rattle.expr_places.specs.Reads.{ReadPlace, read_at, reads_of}

pub reads_are : (p : System) (equation : Equation) (variables : List Variable) (places : List Place) (reads : List ReadPlace) → reads ≡ filter_map (read_at variables) places
    → variables ≡ p.variables → places ≡ places_of p equation → reads ≡ reads_of p equation
reads_are p equation variables places reads found declared all =
    found ∙ ap₂ (λ (vs : List Variable) (ps : List Place). filter_map (read_at vs) ps) declared all
