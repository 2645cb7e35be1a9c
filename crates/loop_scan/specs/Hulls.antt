-- The hull of the boxes of a domain's disjuncts: for each index, from the least to the greatest number over the boxes
-- that have a point. It is held against the limit of 2^22 points.
use Rattle.std.specs.Prelude.{◌≡◌, ℕ, ◌<◌, ◌≤◌, ◌^◌, ◌*◌, Bool, cond, List, [], ◌∷◌, length, map, Option, Some, None, slice_index_or}
use Rattle.std.specs.Prelude.{ℤ, pos, negsuc, ◌+ℤ◌, ◌-ℤ◌, ◌≤ℤ◌, ◌⊎◌, int_le}
use Rattle.std.specs.List.{list_all}
use Rattle.loop_scan.specs.declared.range.Range.{Range}
use Rattle.loop_scan.specs.Boxes.{IsGreatest, IsLeast}

-- how many numbers a range has
abbrev pub natural : ℤ → ℕ
natural (pos n) = n
natural (negsuc n) = 0

abbrev pub size : Range → ℕ
size range = natural ((range.high +ℤ pos 1) -ℤ range.low)

abbrev pub HasNumber : Range → Type 0
HasNumber range = range.low ≤ℤ range.high

abbrev pub has_number : Range → Bool
has_number range = int_le range.low range.high

-- the boxes that have a point
abbrev pub full_boxes : List (Option (List Range)) → List (List Range)
full_boxes [] = []
full_boxes (None ∷ boxes) = full_boxes boxes
full_boxes (Some ranges ∷ boxes) = cond (list_all has_number ranges) (ranges ∷ full_boxes boxes) (full_boxes boxes)

abbrev pub no_range : Range
no_range = record { low = pos 1; high = pos 0 }

abbrev pub range_of : ℕ → List Range → Range
range_of k ranges = slice_index_or ranges k no_range

pub record IsHull (width : ℕ) (boxes : List (List Range)) (hull : List Range) : Type 0 where
  pub indices : length hull ≡ width
  pub lows : (k : ℕ) → k < width → IsLeast (map (λ box. (range_of k box).low) boxes) (range_of k hull).low
  pub highs : (k : ℕ) → k < width → IsGreatest (map (λ box. (range_of k box).high) boxes) (range_of k hull).high

abbrev pub points_in : List Range → ℕ
points_in [] = 1
points_in (range ∷ ranges) = size range * points_in ranges

-- no box has a point, or the hull has few
abbrev pub IsSmall : ℕ → List (Option (List Range)) → Type 0
IsSmall width boxes =
    (full_boxes boxes ≡ []) ⊎ ((hull : List Range) × IsHull width (full_boxes boxes) hull × (points_in hull ≤ 2 ^ 22))

abbrev pub IsLarge : ℕ → List (Option (List Range)) → Type 0
IsLarge width boxes = (hull : List Range) × IsHull width (full_boxes boxes) hull × (2 ^ 22 < points_in hull)
