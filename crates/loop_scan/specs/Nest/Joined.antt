-- Boxes joined one after another to their hull.
use Rattle.std.specs.Prelude.{◌≡◌, ℕ, List, [], length, All, Option, Some, None}
use Rattle.std.specs.Int.{int_max, int_min}
use Rattle.loop_scan.specs.declared.range.Range.{Range}
use Rattle.loop_scan.specs.Hulls.{full_boxes, IsHull}
use Rattle.loop_scan.specs.Nest.Indices.{HasSmallEnds}

abbrev pub joined : Range → Range → Range
joined left right = record { low = int_min left.low right.low; high = int_max right.high left.high }

abbrev pub IsHullOf : ℕ → List (Option (List Range)) → Option (List Range) → Type 0
IsHullOf width boxes None = full_boxes boxes ≡ []
IsHullOf width boxes (Some hull) = IsHull width (full_boxes boxes) hull

-- a box over so many indices, between coordinates
abbrev pub IsBoxOver : ℕ → Option (List Range) → Type 0
IsBoxOver width None = Unit {0}
IsBoxOver width (Some ranges) = (length ranges ≡ width) × All HasSmallEnds ranges
