use Rattle.std.proofs.Common.{◌≡◌, ◌++◌, length}
use Rattle.std.specs.List.{filter}
use Rattle.farkas_find.specs.Tidying.{row_at, coef_at}
use Rattle.farkas_find.specs.Combining.{has_sign, places_where}
use Rattle.farkas_find.proofs.Places.{rest_from}
use Rattle.farkas_find.proofs.pairs.places_with.Given as goal

-- what is kept so far, and what passes of the places to come
abbrev pub invariant-places : goal.invariant-places
invariant-places l = l.places.items ++ filter (λ place. has_sign l.positive (coef_at l.column (row_at l.rows place))) (rest_from l.place (length l.rows))
    ≡ places_where (λ it. has_sign l.positive (coef_at l.column it)) l.rows
