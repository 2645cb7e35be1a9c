-- What is asked of a box: its members, and why it is refused.
use Rattle.std.specs.Prelude.{ℤ, ◌-◌, List, length, All, Err}
use Rattle.az_lin.specs.Affine.{Union, IsCoordinate}
use Rattle.az_ast.specs.Points.{AreMembers}
use Rattle.loop_scan.specs.Answers.{PointsAnswers}
use Rattle.loop_scan.specs.declared.fault.ScanFault.{ScanFault}
use Rattle.loop_scan.specs.declared.fault.ScanFault.TheVariants.{Overflow, Entry, Limit, Memory}

-- the scan of the domain over these outer coordinates answers so
abbrev pub BoxRefuses : Union → List ℤ → ScanFault → Type 0
BoxRefuses domain outer fault = PointsAnswers domain outer (Err fault)

-- exactly the members, and all numbers in range
pub record IsBox (domain : Union) (outer : List ℤ) (points : List (List ℤ)) : Type 0 where
  pub members : AreMembers domain outer (domain.width - length outer) points
  pub coordinates : All (λ point. All IsCoordinate point) points
  pub around : All IsCoordinate outer

-- want of memory has no cause
abbrev pub UnlessMemory : (ScanFault → Type 0) → ScanFault → Type 0
UnlessMemory P Overflow = P Overflow
UnlessMemory P Entry = P Entry
UnlessMemory P (Limit limit) = P (Limit limit)
UnlessMemory P Memory = Unit {0}

abbrev pub IsBoxFault : Union → List ℤ → ScanFault → Type 0
IsBoxFault domain outer fault = UnlessMemory (BoxRefuses domain outer) fault
