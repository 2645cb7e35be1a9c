-- What the calls answer.
use Rattle.std.specs.Prelude.{◌≡◌, ℤ, List, Option, Result, Ok, Err, ◌⊎◌}
use Rattle.std.specs.List.{All}
use Rattle.az_lin.specs.Affine.{Union}
use Rattle.az_lin.specs.declared.limit.Limit.TheVariants.{BoxPoints}
use Rattle.az_ast.specs.Points.{AreMembers}
use Rattle.loop_scan.specs.declared.range.Range.{Range}
use Rattle.loop_scan.specs.declared.fault.ScanFault.{ScanFault}
use Rattle.loop_scan.specs.declared.fault.ScanFault.TheVariants.{Limit, Memory}
use Rattle.loop_scan.specs.Members.{Scan, IsPoint, IsScan, indices}
use Rattle.loop_scan.specs.Boxes.{HasBoxes, Refuses}
use Rattle.loop_scan.specs.Hulls.{IsSmall, IsLarge}

abbrev pub ScanAnswers : Union → List ℤ → Result Scan ScanFault → Type 0
ScanAnswers domain params (Ok scan) = IsScan domain params scan × ((boxes : List (Option (List Range))) × HasBoxes domain params boxes)
ScanAnswers domain params (Err fault) = Refuses domain params fault

-- the list of all members, and one more limit, which is looked at when all boxes are known
abbrev pub PassesPoints : Union → List ℤ → ScanFault → Type 0
PassesPoints domain params fault =
    (fault ≡ Limit BoxPoints)
    × ((boxes : List (Option (List Range))) × HasBoxes domain params boxes × IsLarge (indices domain params) boxes)

abbrev pub PointsAnswers : Union → List ℤ → Result (List (List ℤ)) ScanFault → Type 0
PointsAnswers domain params (Ok points) =
    AreMembers domain params (indices domain params) points
    × All (IsPoint (indices domain params)) points
    × ((boxes : List (Option (List Range))) × HasBoxes domain params boxes × IsSmall (indices domain params) boxes)
PointsAnswers domain params (Err fault) = Refuses domain params fault ⊎ PassesPoints domain params fault

-- no answer is a refusal but for want of memory
abbrev pub IsUnrefused : Union → List ℤ → Type 0
IsUnrefused domain params = (fault : ScanFault) → PointsAnswers domain params (Err fault) → fault ≡ Memory
