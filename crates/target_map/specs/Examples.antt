-- Pairs of instances, by their coordinates in time and the numbers of their statements, and whether the first is
-- before the second. They were decided by hand.
use Rattle.std.specs.Prelude.{ℕ, ℤ, pos, negsuc, Bool, true, false, List, [], ◌∷◌}
use Rattle.std.specs.List.{AllByRecursion}
use Rattle.target_map.specs.Before.{Before}
use Rattle.target_map.specs.Kinds.{tile_sizes}
use Rattle.target_map.specs.Stamps.{stamp}
use Rattle.target_map.specs.declared.kind.Kind.{Kind}
use Rattle.target_map.specs.declared.kind.Kind.TheVariants.{Outer, Band, Processor, Inner}

pub record Pair : Type 0 where
  pub kinds : List Kind
  pub first : List ℤ
  pub first_number : ℕ
  pub second : List ℤ
  pub second_number : ℕ
  pub before : Bool

abbrev pub pair : List Kind → List ℤ → ℕ → List ℤ → ℕ → Bool → Pair
pair kinds a n b k before = record { kinds = kinds; first = a; first_number = n; second = b; second_number = k; before = before }

abbrev pub PairIsBefore : Pair → Type 0
PairIsBefore row = Before (tile_sizes row.kinds) (stamp row.kinds (pos row.first_number) row.first) (stamp row.kinds (pos row.second_number) row.second)

abbrev pub Claims : Bool → Type 0 → Type 0
Claims true fact = fact
Claims false fact = fact → ⊥

abbrev pub IsTold : Pair → Type 0
IsTold row = Claims row.before (PairIsBefore row)

abbrev pub pairs : List Pair
pairs =
    -- one step after the other, and at one step the statements in order
    pair (Outer ∷ []) (pos 0 ∷ []) 0 (pos 1 ∷ []) 0 true
    ∷ pair (Outer ∷ []) (pos 1 ∷ []) 0 (pos 0 ∷ []) 0 false
    ∷ pair (Outer ∷ []) (pos 0 ∷ []) 1 (pos 0 ∷ []) 2 true
    ∷ pair (Outer ∷ []) (pos 0 ∷ []) 2 (pos 0 ∷ []) 1 false
    ∷ pair (Outer ∷ []) (pos 0 ∷ []) 0 (pos 0 ∷ []) 0 false
    ∷ pair (Outer ∷ Outer ∷ []) (pos 0 ∷ pos 9 ∷ []) 0 (pos 1 ∷ negsuc 3 ∷ []) 0 true
    ∷ pair (Outer ∷ Outer ∷ []) (pos 1 ∷ negsuc 3 ∷ []) 0 (pos 1 ∷ negsuc 2 ∷ []) 0 true
    ∷ pair (Outer ∷ Outer ∷ []) (pos 1 ∷ negsuc 2 ∷ []) 0 (pos 1 ∷ negsuc 3 ∷ []) 0 false
    -- processors, in blocks of two
    ∷ pair (Outer ∷ Processor 2 ∷ []) (pos 0 ∷ pos 5 ∷ []) 0 (pos 1 ∷ pos 0 ∷ []) 0 true
    ∷ pair (Outer ∷ Processor 2 ∷ []) (pos 1 ∷ pos 0 ∷ []) 1 (pos 1 ∷ pos 1 ∷ []) 2 false
    ∷ pair (Outer ∷ Processor 2 ∷ []) (pos 1 ∷ pos 3 ∷ []) 0 (pos 1 ∷ pos 3 ∷ []) 1 true
    ∷ pair (Processor 1 ∷ Inner ∷ []) (pos 3 ∷ negsuc 1 ∷ []) 0 (pos 3 ∷ negsuc 0 ∷ []) 0 true
    ∷ pair (Processor 1 ∷ Inner ∷ []) (pos 3 ∷ negsuc 0 ∷ []) 0 (pos 4 ∷ pos 0 ∷ []) 0 false
    -- a band of tiles: -4 and -3 in one tile, -1 and 0 in two
    ∷ pair (Band 4 ∷ []) (negsuc 3 ∷ []) 0 (negsuc 2 ∷ []) 0 true
    ∷ pair (Band 4 ∷ []) (negsuc 2 ∷ []) 0 (negsuc 3 ∷ []) 0 false
    ∷ pair (Band 4 ∷ []) (negsuc 0 ∷ []) 0 (pos 0 ∷ []) 0 true
    -- no coordinate of the band may go back
    ∷ pair (Band 4 ∷ Band 4 ∷ []) (pos 0 ∷ pos 1 ∷ []) 0 (pos 1 ∷ pos 0 ∷ []) 0 false
    ∷ pair (Band 4 ∷ Band 4 ∷ []) (pos 0 ∷ pos 1 ∷ []) 0 (pos 1 ∷ pos 1 ∷ []) 0 true
    ∷ pair (Band 1 ∷ Band 4 ∷ []) (pos 0 ∷ pos 1 ∷ []) 0 (pos 1 ∷ pos 0 ∷ []) 0 false
    -- another processor is behind in a tile of size 1 alone
    ∷ pair (Band 1 ∷ Band 4 ∷ Processor 1 ∷ []) (pos 0 ∷ pos 1 ∷ pos 7 ∷ []) 0 (pos 1 ∷ pos 1 ∷ pos 2 ∷ []) 0 true
    ∷ pair (Band 4 ∷ Band 4 ∷ Processor 1 ∷ []) (pos 0 ∷ pos 1 ∷ pos 7 ∷ []) 0 (pos 1 ∷ pos 1 ∷ pos 2 ∷ []) 0 false
    ∷ pair (Band 4 ∷ Band 4 ∷ Processor 1 ∷ []) (pos 0 ∷ pos 1 ∷ pos 2 ∷ []) 0 (pos 1 ∷ pos 1 ∷ pos 2 ∷ []) 0 true
    -- all kinds
    ∷ pair (Band 2 ∷ Processor 3 ∷ Inner ∷ []) (negsuc 4 ∷ pos 1 ∷ pos 9 ∷ []) 0 (negsuc 4 ∷ pos 1 ∷ negsuc 8 ∷ []) 0 false
    ∷ pair (Band 2 ∷ Processor 3 ∷ Inner ∷ []) (negsuc 4 ∷ pos 1 ∷ negsuc 8 ∷ []) 0 (negsuc 4 ∷ pos 1 ∷ pos 9 ∷ []) 0 true
    ∷ pair (Outer ∷ Band 1 ∷ Processor 1 ∷ Inner ∷ []) (pos 2 ∷ negsuc 0 ∷ pos 0 ∷ pos 0 ∷ []) 0 (pos 2 ∷ pos 0 ∷ pos 5 ∷ negsuc 6 ∷ []) 0 true
    ∷ pair (Outer ∷ Band 1 ∷ []) (pos 3 ∷ pos 0 ∷ []) 0 (pos 2 ∷ pos 5 ∷ []) 0 false
    ∷ []

abbrev pub PairsAreTold : Type 0
PairsAreTold = AllByRecursion IsTold pairs
