use Rattle.std.proofs.Common.{◌≡◌, map}
use Rattle.std.specs.List.{range_with_len}
use Rattle.farkas_find.specs.Choosing.{negative_place}
use Rattle.farkas_find.proofs.negative.negative_places.Given as goal

-- the answers of the places so far
abbrev pub invariant-places : goal.invariant-places
invariant-places l = l.places.items ≡ map (negative_place l.rows) (range_with_len 0 l.place)
