-- The systems over directions: for each disjunct of a domain and each of its own indices, first upwards and then
-- downwards, that no row of the disjunct or of the domains around it falls and that the index moves.
use Rattle.std.specs.Prelude.{ℕ, List, [], ◌∷◌, ◌++◌, map, ℤ, pos, negsuc}
use Rattle.std.specs.List.{flat_map, range_with_len}
use Rattle.az_lin.specs.Affine.{Affine, Union}
use Rattle.expr_places.specs.Directions.{slope, moves}
use Rattle.formula_refute.specs.Claims.{Claim, all_of}
use Rattle.formula_refute.specs.Domains.{atoms}

abbrev pub rows_of : Union → List Affine
rows_of domain = flat_map (λ conj. conj.rows) domain.disjuncts

-- that the slopes are at least 0 and the index moves; a formula whose one case has these rows
abbrev pub direction : ℕ → List Affine → ℕ → ℤ → Claim
direction extra slopes j sign = all_of (atoms (slopes ++ moves extra j sign ∷ []))

abbrev pub both_ways : ℕ → List Affine → ℕ → List Claim
both_ways extra slopes j = direction extra slopes j (pos 1) ∷ direction extra slopes j (negsuc 0) ∷ []

abbrev pub along_each : ℕ → List Affine → List Claim
along_each extra slopes = flat_map (both_ways extra slopes) (range_with_len 0 extra)

-- over the columns behind the first `outer`
abbrev pub directions_in : List Union → Union → ℕ → ℕ → List Claim
directions_in around domain outer extra =
    flat_map (λ conj. along_each extra (map (slope outer extra) (flat_map rows_of around ++ conj.rows))) domain.disjuncts
