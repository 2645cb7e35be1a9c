-- What the code knows of one index and of one box.
use Rattle.std.specs.Prelude.{◌≡◌, ℕ, List, [], length, All, Option, Some, None, Result, Ok, Err, ℤ, pos, slice_index_or}
use Rattle.std.specs.List.{AllZip}
use Rattle.az_lin.specs.Affine.{Polyhedron, Holds, IsCoordinate}
use Rattle.loop_scan.specs.declared.range.Range.{Range}
use Rattle.loop_scan.specs.declared.fault.ScanFault.{ScanFault}
use Rattle.loop_scan.specs.declared.fault.ScanFault.TheVariants.{Overflow, Entry, Limit, Memory}
use Rattle.loop_scan.specs.Boxes.{IsGreatest, IsLeast, HasRange, Refutes, RefusesIndex}
use Rattle.loop_scan.specs.Nest.Levels.{IsIn}

-- the best bound of a list, if it has one
abbrev pub IsGreatestOf : List ℤ → Option ℤ → Type 0
IsGreatestOf bounds None = bounds ≡ []
IsGreatestOf bounds (Some bound) = IsGreatest bounds bound

abbrev pub IsLeastOf : List ℤ → Option ℤ → Type 0
IsLeastOf bounds None = bounds ≡ []
IsLeastOf bounds (Some bound) = IsLeast bounds bound

abbrev pub IndexAnswers : Polyhedron → ℕ → Result (Option Range) ScanFault → Type 0
IndexAnswers system j (Ok None) = Refutes system j
IndexAnswers system j (Ok (Some range)) = HasRange system j range
IndexAnswers system j (Err Memory) = Unit {0}
IndexAnswers system j (Err Overflow) = RefusesIndex system j Overflow
IndexAnswers system j (Err Entry) = ⊥
IndexAnswers system j (Err (Limit limit)) = RefusesIndex system j (Limit limit)

-- where a point of the system may have this coordinate
abbrev pub BoundsIndex : List ℤ → ℕ → Option Range → Type 0
BoundsIndex z j None = ⊥
BoundsIndex z j (Some range) = IsIn range (slice_index_or z j (pos 0))

-- a box holds all points of the system
abbrev pub BoundsPoint : List ℤ → Option (List Range) → Type 0
BoundsPoint z None = ⊥
BoundsPoint z (Some ranges) = AllZip IsIn ranges z

abbrev pub HasSmallEnds : Range → Type 0
HasSmallEnds range = IsCoordinate range.low × IsCoordinate range.high

abbrev pub HasSmallRanges : Option (List Range) → Type 0
HasSmallRanges None = Unit {0}
HasSmallRanges (Some ranges) = All HasSmallEnds ranges

pub record Bounds (system : Polyhedron) (box : Option (List Range)) : Type 0 where
  pub points : (z : List ℤ) → length z ≡ system.width → Holds system z → BoundsPoint z box
  pub coordinates : HasSmallRanges box
