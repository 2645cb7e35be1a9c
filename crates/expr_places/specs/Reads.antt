-- The reads of an equation: its accesses to outputs and locals, numbered from 0 in pre-order.
use Rattle.std.specs.Prelude.{ℕ, List, Option, Some, None, not, if◌then◌else◌, filter_map}
use Rattle.az_lin.specs.Affine.{AffineMap}
use Rattle.az_ast.specs.Shapes.{of_variable, is_input}
use Rattle.az_ast.specs.System.{System}
use Rattle.az_ast.specs.declared.program.Equation.{Equation}
use Rattle.az_ast.specs.declared.program.Variable.{Variable}
use Rattle.expr_places.specs.Places.{Part, case_over, reduction_over, access_to, Place, places_of}
use Rattle.expr_places.specs.declared.scope.Scope.{Scope}

pub record ReadPlace : Type 0 where
  pub variable : ℕ
  pub map : AffineMap
  pub scope : Scope

abbrev pub read_in : List Variable → Scope → Part → Option ReadPlace
read_in variables scope (case_over domains) = None
read_in variables scope (reduction_over extra domain) = None
read_in variables scope (access_to x f) =
    if of_variable variables (λ variable. not (is_input variable.role)) x then Some (record { variable = x; map = f; scope = scope }) else None

abbrev pub read_at : List Variable → Place → Option ReadPlace
read_at variables place = read_in variables place.scope place.part

abbrev pub reads_of : System → Equation → List ReadPlace
reads_of p equation = filter_map (read_at p.variables) (places_of p equation)
