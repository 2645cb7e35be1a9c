-- The points of all outputs and locals, by the numbers of the variables; an input has none.
use Rattle.std.specs.Prelude.{◌≡◌, ℕ, ℤ, ◌-◌, List, [], length, slice_index_or, slice_get, All, MatchOption}
use Rattle.az_lin.specs.Affine.{IsCoordinate}
use Rattle.az_ast.specs.Meaning.{RoleGives}
use Rattle.az_ast.specs.Points.{AreMembers}
use Rattle.az_ast.specs.System.{System}

abbrev pub Points : Type 0
Points = List (List (List ℤ))

abbrev pub points_of : Points → ℕ → List (List ℤ)
points_of points x = slice_index_or points x []

-- all points of the outputs and locals, in order
pub record AreCoordinates (params : List ℤ) (list : List (List ℤ)) : Type 0 where
  pub points : All (λ point. All IsCoordinate point) list
  pub parameters : All IsCoordinate params

abbrev pub IsCoveredBy : System → List ℤ → ℕ → List (List ℤ) → Type 0
IsCoveredBy p params x list =
    MatchOption (slice_get p.variables x) (list ≡ []) (λ variable.
    RoleGives variable.role (list ≡ [])
    (AreMembers variable.domain params (variable.domain.width - length p.params) list × AreCoordinates params list))

abbrev pub AreCovered : System → List ℤ → Points → ℕ → Type 0
AreCovered p params points x = IsCoveredBy p params x (points_of points x)

abbrev pub ArePoints : System → List ℤ → Points → Type 0
ArePoints p params points = (x : ℕ) → AreCovered p params points x
