-- What the points of a box are, and what refuses them.
use Rattle.std.proofs.Common.{List}
use Rattle.std.specs.Prelude.{ℤ, Ok, Err}
use Rattle.az_lin.specs.Affine.{Union}
use Rattle.loop_scan.specs.Answers.{PointsAnswers}
use Rattle.loop_scan.specs.declared.fault.ScanFault.{ScanFault}
use Rattle.loop_scan.specs.declared.fault.ScanFault.TheVariants.{Overflow, Entry, Limit, Memory}
use Rattle.value_walk.specs.Boxes.{IsBox, IsBoxFault}

pub box-of : (domain : Union) (outer : List ℤ) (points : List (List ℤ)) → PointsAnswers domain outer (Ok points) → IsBox domain outer points
box-of domain outer points p = record {
  members = p.0;
  coordinates = λ k d h. (p.1 k d h).1;
  around = p.2.1.coordinates;
}

pub points-fault : (domain : Union) (outer : List ℤ) (fault : ScanFault) → PointsAnswers domain outer (Err fault) → IsBoxFault domain outer fault
points-fault domain outer Overflow h = h
points-fault domain outer Entry h = h
points-fault domain outer (Limit limit) h = h
points-fault domain outer Memory h = tt
