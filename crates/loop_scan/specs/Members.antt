-- What a scanner promises: exactly the members of a domain at given parameters, each once, in lexicographic order.
--
-- The domain's first columns are the parameters. A scanner is seen as the width of its points, the indices, and the
-- list of the points that it has still to give. A new one has all members to come, and each call gives the first.
use Rattle.std.specs.Prelude.{◌≡◌, ℕ, ℤ, ◌-◌, List, length}
use Rattle.std.specs.List.{All}
use Rattle.az_lin.specs.Affine.{Union, IsCoordinate}
use Rattle.az_ast.specs.Points.{AreMembers}

pub record Scan : Type 0 where
  pub width : ℕ
  pub to_come : List (List ℤ)

-- how many indices a domain has after its parameters
abbrev pub indices : Union → List ℤ → ℕ
indices domain params = domain.width - length params

abbrev pub IsPoint : ℕ → List ℤ → Type 0
IsPoint width point = (length point ≡ width) × All IsCoordinate point

pub record IsScan (domain : Union) (params : List ℤ) (scan : Scan) : Type 0 where
  pub width : scan.width ≡ indices domain params
  pub members : AreMembers domain params (indices domain params) scan.to_come
  pub points : All (IsPoint (indices domain params)) scan.to_come
