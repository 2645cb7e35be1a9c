-- What a checked verdict on a system says: refuted, it holds no whole point; else it has the point of the elimination.
-- A refusal is that of the elimination.
use Rattle.std.specs.Prelude.{Bool, true, false, List, ℤ, Result, Ok, Err}
use Rattle.az_lin.specs.Affine.{Polyhedron, Holds}
use Rattle.az_lin.specs.declared.step.RatPoint.{RatPoint}
use Rattle.farkas_find.specs.Verdict.{Decides, HasPoint}
use Rattle.farkas_find.specs.declared.fault.FindFault.{FindFault}

abbrev pub IsRefutation : Polyhedron → Result Bool FindFault → Type 0
IsRefutation system (Ok true) = (z : List ℤ) → ¬ Holds system z
IsRefutation system (Ok false) = (point : RatPoint) × HasPoint system point
IsRefutation system (Err fault) = Decides system (Err fault)
