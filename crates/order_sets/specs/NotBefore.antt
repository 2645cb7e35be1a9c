-- Rows as instances: the formula that is true where an instance isn't before another.
--
-- The rows give coordinates over the columns of the formula; the differences of two rows are at least 0 where one
-- coordinate is at least, or greater than, the other.
use Rattle.std.specs.Prelude.{ℕ, ◌==◌, if◌then◌else◌, List, [], ◌∷◌, ◌++◌, map, ℤ, pos}
use Rattle.az_lin.specs.Affine.{Affine, value_at}
use Rattle.az_lin.specs.Difference.{apart_by}
use Rattle.formula_refute.specs.Claims.{Claim, atom, all_of, any_of, claims}
use Rattle.target_map.specs.Stamps.{Stamp}

-- the first at least the second, and greater
abbrev pub at_least : Affine → Affine → Claim
at_least u v = atom (apart_by (pos 0) u v)

abbrev pub greater : Affine → Affine → Claim
greater u v = atom (apart_by (pos 1) u v)

abbrev pub both_ways : Affine → Affine → List Claim
both_ways u v = at_least u v ∷ at_least v u ∷ []

-- for each place
abbrev pub each_pair : (Affine → Affine → List Claim) → List Affine → List Affine → List Claim
each_pair f [] vs = []
each_pair f (u ∷ us) [] = []
each_pair f (u ∷ us) (v ∷ vs) = f u v ++ each_pair f us vs

abbrev pub equal : List Affine → List Affine → Claim
equal us vs = all_of (claims (each_pair both_ways us vs))

-- lexicographically less: for some place, equal before it and less there
abbrev pub less_after : List Claim → List Affine → List Affine → List Claim
less_after before [] vs = []
less_after before (u ∷ us) [] = []
less_after before (u ∷ us) (v ∷ vs) = all_of (claims (before ++ greater v u ∷ [])) ∷ less_after (before ++ both_ways u v) us vs

abbrev pub less : List Affine → List Affine → Claim
less us vs = any_of (claims (less_after [] us vs))

abbrev pub exceeds : Affine → Affine → List Claim
exceeds u v = greater u v ∷ []

abbrev pub is_within : Affine → Affine → List Claim
is_within u v = at_least v u ∷ []

abbrev pub apart : Affine → Affine → List Claim
apart u v = greater v u ∷ greater u v ∷ []

-- not less in a coordinate whose tiles have size 1
abbrev pub unit_at_least : List ℕ → List Affine → List Affine → List Claim
unit_at_least [] us vs = []
unit_at_least (size ∷ sizes) [] vs = []
unit_at_least (size ∷ sizes) (u ∷ us) [] = []
unit_at_least (size ∷ sizes) (u ∷ us) (v ∷ vs) =
    if size == 1 then at_least u v ∷ unit_at_least sizes us vs else unit_at_least sizes us vs

-- on another processor, or not earlier in the tile
abbrev pub beside : Stamp Affine → Stamp Affine → List Claim
beside u v = each_pair apart u.processor v.processor ++ (less v.tile u.tile ∷ equal u.tile v.tile ∷ [])

-- not back in the band, in no unit tile ahead, and beside
abbrev pub not_ahead : List ℕ → Stamp Affine → Stamp Affine → List Claim
not_ahead sizes u v = each_pair is_within u.band v.band ++ (unit_at_least sizes u.band v.band ++ any_of (claims (beside u v)) ∷ [])

abbrev pub in_one_step : List ℕ → Stamp Affine → Stamp Affine → List Claim
in_one_step sizes u v = each_pair exceeds u.band v.band ++ all_of (claims (not_ahead sizes u v)) ∷ []

abbrev pub not_before : List ℕ → Stamp Affine → Stamp Affine → Claim
not_before sizes u v =
    any_of (claims (less v.outer u.outer ∷ all_of (claims (equal u.outer v.outer ∷ any_of (claims (in_one_step sizes u v)) ∷ [])) ∷ []))

-- what the rows give at a point
abbrev pub values : List ℤ → List Affine → List ℤ
values z rows = map (λ row. value_at row z) rows

abbrev pub stamp_values : List ℤ → Stamp Affine → Stamp ℤ
stamp_values z u = record {
  outer = values z u.outer;
  band = values z u.band;
  processor = values z u.processor;
  tile = values z u.tile;
}
