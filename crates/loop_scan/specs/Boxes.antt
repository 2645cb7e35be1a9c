-- The box of a domain, index by index, and the first reason for which there is none.
--
-- A disjunct's box is the product of the ranges of its indices, after the parameters are put in. What the elimination
-- of all other columns leaves are rows of one index. They bound it, and its range goes from the greatest lower bound to
-- the least upper bound. So the box is known without a look at how it is walked.
use Rattle.std.specs.Prelude.{◌≡◌, ℕ, ◌<◌, cond, List, [], ◌∷◌, length, map, All, Contains, Option, Some, None, Result, Ok, Err, ◌⊎◌, slice_index_or}
use Rattle.std.specs.Prelude.{ℤ, pos, neg_ℤ, ◌≤ℤ◌, int_lt}
use Rattle.std.specs.Int.{int_div_euclid}
use Rattle.std.specs.List.{AllZip, flat_map}
use Rattle.az_lin.specs.Affine.{Affine, Polyhedron, Union, IsCoordinate, HasEntryDomain}
use Rattle.az_lin.specs.Columns.{domain_at_params}
use Rattle.az_lin.specs.declared.limit.Limit.{Limit as Limits}
use Rattle.az_lin.specs.declared.limit.Limit.TheVariants.{Rows as TooManyRows, Coordinate}
use Rattle.farkas_find.specs.Choosing.{free_columns}
use Rattle.farkas_find.specs.Stages.{given_rows}
use Rattle.farkas_find.specs.Rows.{affine_of}
use Rattle.farkas_find.specs.Answers.{RangeAnswers}
use Rattle.farkas_find.specs.declared.wide.WideRow.{WideRow}
use Rattle.farkas_find.specs.declared.left.Left.{Left}
use Rattle.farkas_find.specs.declared.left.Left.TheVariants.{Contradiction, Rows}
use Rattle.farkas_find.specs.declared.fault.FindFault.{FindFault}
use Rattle.farkas_find.specs.declared.fault.FindFault.TheVariants.{Overflow as LeavesRange, Limit as PassesLimit}
use Rattle.loop_scan.specs.declared.range.Range.{Range}
use Rattle.loop_scan.specs.declared.fault.ScanFault.{ScanFault}
use Rattle.loop_scan.specs.declared.fault.ScanFault.TheVariants.{Overflow, Entry, Limit, Memory}

-- what the stages with every column but one answer for the rows of a disjunct
abbrev pub Eliminates : Polyhedron → ℕ → Result Left FindFault → Type 0
Eliminates system column answer = RangeAnswers (free_columns (Some column) system.width) (given_rows system.rows) answer

-- A row c x + e >= 0 bounds x: with c above 0 from below by -e/c rounded up, with c below 0 from above by e/-c
-- rounded down.
abbrev pub coef_of : ℕ → Affine → ℤ
coef_of column row = slice_index_or row.coefs column (pos 0)

abbrev pub lower_bound : ℕ → Affine → List ℤ
lower_bound column row = cond (int_lt (pos 0) (coef_of column row)) (neg_ℤ (int_div_euclid row.konst (coef_of column row)) ∷ []) []

abbrev pub upper_bound : ℕ → Affine → List ℤ
upper_bound column row = cond (int_lt (coef_of column row) (pos 0)) (int_div_euclid row.konst (neg_ℤ (coef_of column row)) ∷ []) []

abbrev pub IsGreatest : List ℤ → ℤ → Type 0
IsGreatest bounds bound = Contains bounds bound × All (λ other. other ≤ℤ bound) bounds

abbrev pub IsLeast : List ℤ → ℤ → Type 0
IsLeast bounds bound = Contains bounds bound × All (λ other. bound ≤ℤ other) bounds

pub record IsRangeOf (column : ℕ) (rows : List Affine) (range : Range) : Type 0 where
  pub low : IsGreatest (flat_map (lower_bound column) rows) range.low
  pub high : IsLeast (flat_map (upper_bound column) rows) range.high
  pub low_small : IsCoordinate range.low
  pub high_small : IsCoordinate range.high

-- an index has a range, meets a contradiction, or is refused: the elimination leaves 128 bits, a stage has too many rows,
-- or the rows that are left don't bound the index by coordinates on both sides
abbrev pub HasRange : Polyhedron → ℕ → Range → Type 0
HasRange system j range = (rows : List WideRow) × Eliminates system j (Ok (Rows rows)) × IsRangeOf j (map affine_of rows) range

abbrev pub Refutes : Polyhedron → ℕ → Type 0
Refutes system j = Eliminates system j (Ok Contradiction)

abbrev pub LacksRange : Polyhedron → ℕ → Type 0
LacksRange system j =
    (rows : List WideRow) × Eliminates system j (Ok (Rows rows)) × ((range : Range) → IsRangeOf j (map affine_of rows) range → ⊥)

abbrev pub RefusesBy : Polyhedron → ℕ → Limits → Type 0
RefusesBy system j TooManyRows = Eliminates system j (Err (PassesLimit TooManyRows))
RefusesBy system j Coordinate = LacksRange system j
RefusesBy system j _ = ⊥

abbrev pub RefusesIndex : Polyhedron → ℕ → ScanFault → Type 0
RefusesIndex system j Overflow = (s : ℕ) × Eliminates system j (Err (LeavesRange s))
RefusesIndex system j (Limit limit) = RefusesBy system j limit
RefusesIndex system j Entry = ⊥
RefusesIndex system j Memory = ⊥

-- Indices are asked in order. A contradiction ends a disjunct, and then it has no box; so does a refusal.
abbrev pub HaveRanges : Polyhedron → ℕ → Type 0
HaveRanges system k = (j : ℕ) → j < k → (range : Range) × HasRange system j range

abbrev pub IsBox : Polyhedron → Option (List Range) → Type 0
IsBox system None = (k : ℕ) × (k < system.width) × HaveRanges system k × Refutes system k
IsBox system (Some ranges) =
    (length ranges ≡ system.width) × ((k : ℕ) (d : Range) → k < system.width → HasRange system k (slice_index_or ranges k d))

abbrev pub RefusesBox : Polyhedron → ScanFault → Type 0
RefusesBox system fault = (k : ℕ) × (k < system.width) × HaveRanges system k × RefusesIndex system k fault

-- and disjuncts are asked in order
abbrev pub AreBoxes : List Polyhedron → List (Option (List Range)) → Type 0
AreBoxes disjuncts boxes = AllZip IsBox disjuncts boxes

abbrev pub RefusesBoxes : List Polyhedron → ScanFault → Type 0
RefusesBoxes [] fault = ⊥
RefusesBoxes (disjunct ∷ disjuncts) fault =
    RefusesBox disjunct fault ⊎ ((box : Option (List Range)) × IsBox disjunct box × RefusesBoxes disjuncts fault)

-- The boxes of a domain at parameters: these fit the rows, then they are coordinates, then each disjunct has its box.
pub record HasBoxes (domain : Union) (params : List ℤ) (boxes : List (Option (List Range))) : Type 0 where
  pub entries : HasEntryDomain (domain_at_params params domain)
  pub coordinates : All IsCoordinate params
  pub disjuncts : AreBoxes (domain_at_params params domain).disjuncts boxes

pub record RefusesDomain (domain : Union) (params : List ℤ) (fault : ScanFault) : Type 0 where
  pub entries : HasEntryDomain (domain_at_params params domain)
  pub coordinates : All IsCoordinate params
  pub disjuncts : RefusesBoxes (domain_at_params params domain).disjuncts fault

abbrev pub RefusesParams : Union → List ℤ → Limits → Type 0
RefusesParams domain params limit = (limit ≡ Coordinate) × HasEntryDomain (domain_at_params params domain) × (All IsCoordinate params → ⊥)

abbrev pub Refuses : Union → List ℤ → ScanFault → Type 0
Refuses domain params Entry = HasEntryDomain (domain_at_params params domain) → ⊥
Refuses domain params Overflow = RefusesDomain domain params Overflow
Refuses domain params (Limit limit) = RefusesParams domain params limit ⊎ RefusesDomain domain params (Limit limit)
Refuses domain params Memory = Unit {0}
