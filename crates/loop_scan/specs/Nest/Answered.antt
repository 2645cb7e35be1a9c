-- What the code answers for the boxes of disjuncts.
use Rattle.std.specs.Prelude.{List, map, Option, Result, Ok, Err}
use Rattle.std.specs.Option.{option_map}
use Rattle.std.specs.List.{AllZip}
use Rattle.std.specs.Global.{Vec}
use Rattle.az_lin.specs.Affine.{Polyhedron}
use Rattle.loop_scan.specs.declared.range.Range.{Range}
use Rattle.loop_scan.specs.declared.fault.ScanFault.{ScanFault}
use Rattle.loop_scan.specs.declared.fault.ScanFault.TheVariants.{Overflow, Entry, Limit, Memory}
use Rattle.loop_scan.specs.Boxes.{IsBox, RefusesBox, AreBoxes, RefusesBoxes}
use Rattle.loop_scan.specs.Nest.Indices.{Bounds}

abbrev pub ranges_of : Option (Vec Range) → Option (List Range)
ranges_of got = option_map (λ ranges. ranges.items) got

abbrev pub Faults : (ScanFault → Type 0) → ScanFault → Type 0
Faults Refuses Overflow = Refuses Overflow
Faults Refuses Entry = ⊥
Faults Refuses (Limit limit) = Refuses (Limit limit)
Faults Refuses Memory = Unit {0}

abbrev pub BoxAnswers : Polyhedron → Result (Option (Vec Range)) ScanFault → Type 0
BoxAnswers system (Ok got) = IsBox system (ranges_of got)
BoxAnswers system (Err fault) = Faults (RefusesBox system) fault

abbrev pub BoxesAnswer : List Polyhedron → Result (Vec (Option (Vec Range))) ScanFault → Type 0
BoxesAnswer disjuncts (Ok got) = AreBoxes disjuncts (map ranges_of got.items)
BoxesAnswer disjuncts (Err fault) = Faults (RefusesBoxes disjuncts) fault

-- each box holds the points of its disjunct
abbrev pub AllBound : List Polyhedron → List (Option (List Range)) → Type 0
AllBound disjuncts boxes = AllZip Bounds disjuncts boxes
