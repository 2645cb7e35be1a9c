-- What certification asks of each place: at a case that one branch holds each point in force, at a
-- reduction that its points are finite, at an access that each point in force reads within the variable's
-- domain. An equation is sound exactly if it is sound at each of its places.
use Rattle.std.specs.Prelude.{◌≡◌, ◌↔◌, ℤ, List, length, All}
use Rattle.az_ast.specs.Certified.{IsInContext, IsFinite, ReadsWithin, IsSoundEquation}
use Rattle.az_ast.specs.Placed.{IsEquationPlaced}
use Rattle.az_ast.specs.System.{System}
use Rattle.az_ast.specs.declared.program.Equation.{Equation}
use Rattle.expr_places.specs.Branches.{HasOneBranch}
use Rattle.expr_places.specs.Places.{Part, case_over, reduction_over, access_to, Place, places_of}
use Rattle.expr_places.specs.declared.scope.Scope.{Scope}

abbrev pub AtEachPoint : Scope → (List ℤ → Type 0) → Type 0
AtEachPoint scope IsGood = (z : List ℤ) → length z ≡ scope.width → IsInContext scope.domains z → IsGood z

abbrev pub IsSoundPart : System → Scope → Part → Type 0
IsSoundPart p scope (case_over domains) = AtEachPoint scope (λ z. HasOneBranch domains z)
IsSoundPart p scope (reduction_over extra domain) = IsFinite domain scope.width extra
IsSoundPart p scope (access_to x f) = AtEachPoint scope (λ z. ReadsWithin p x f z)

abbrev pub IsSoundAt : System → Place → Type 0
IsSoundAt p place = IsSoundPart p place.scope place.part

-- the promise of this crate
abbrev pub IsSoundByPlaces : System → Equation → Type 0
IsSoundByPlaces p equation = IsEquationPlaced p.variables equation → IsSoundEquation p equation ↔ All (IsSoundAt p) (places_of p equation)
