use Rattle.std.proofs.Common.{◌≡◌, ◌++◌, drop, map}
use Rattle.std.specs.Prelude.{filter_map}
use Rattle.expr_places.specs.Lent.{place_of, read_of}
use Rattle.expr_places.specs.Reads.{read_at}
use Rattle.expr_places.proofs.read.reads.Given as goal

-- what was found, with what is left to be found
abbrev pub invariant-loop-place : goal.invariant-loop-place
invariant-loop-place l =
    map read_of l.found.items ++ filter_map (read_at l.variables) (map place_of (drop l.place-index l.places))
    ≡ filter_map (read_at l.variables) (map place_of l.places)
