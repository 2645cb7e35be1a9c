-- A domain that has boxes isn't refused: the elimination answers an index in one way, so a disjunct has one box or none, and
-- the hull of the boxes is small or large and never both.
use Rattle.std.proofs.Common.{◌≡◌, ◌≢◌, ℕ, zero, suc, ◌<◌, List, [], ◌∷◌, length, map, get_or, refl, sym, subst, ap, ◌∙◌, arith, inl, inr}
use Rattle.std.specs.Prelude.{ℤ, Option, Some, None, Result, Ok, Err, IfOk}
use Rattle.std.specs.List.{flat_map}
use Rattle.std.proofs.lemmas.Bool.{cases_lt}
use Rattle.std.proofs.lemmas.List.{ext_get_or, nil_from_length}
use Rattle.az_lin.specs.Affine.{Polyhedron, Union}
use Rattle.az_lin.specs.Columns.{domain_at_params}
use Rattle.az_lin.specs.declared.limit.Limit.{Limit as Limits}
use Rattle.az_lin.specs.declared.limit.Limit.TheVariants.{Rows as TooManyRows, Coordinate, File, Commands, Size, Names, Columns, Pieces, Systems, Steps, BoxPoints, Points, Instances, Loads, Cells, Turns, Disjuncts}
use Rattle.farkas_find.specs.Choosing.{free_columns}
use Rattle.farkas_find.specs.Stages.{given_rows}
use Rattle.farkas_find.specs.Rows.{affine_of}
use Rattle.farkas_find.specs.declared.wide.WideRow.{WideRow}
use Rattle.farkas_find.specs.declared.left.Left.{Left}
use Rattle.farkas_find.specs.declared.left.Left.TheVariants.{Contradiction, Rows}
use Rattle.farkas_find.specs.declared.fault.FindFault.{FindFault}
use Rattle.farkas_find.specs.declared.fault.FindFault.TheVariants.{Overflow as LeavesRange, Limit as PassesLimit, Memory as NoMemory}
use Rattle.farkas_find.proofs.OneAnswer.{range_once}
use Rattle.loop_scan.specs.declared.range.Range.{Range}
use Rattle.loop_scan.specs.declared.fault.ScanFault.{ScanFault}
use Rattle.loop_scan.specs.declared.fault.ScanFault.TheVariants.{Overflow, Entry, Limit, Memory}
use Rattle.loop_scan.specs.Answers.{PointsAnswers, IsUnrefused}
use Rattle.loop_scan.specs.Boxes.{Eliminates, lower_bound, upper_bound, IsRangeOf, HasRange, Refutes, RefusesBy, RefusesIndex, IsBox, RefusesBox, AreBoxes, RefusesBoxes, HasBoxes, Refuses}
use Rattle.loop_scan.specs.Hulls.{full_boxes, no_range, range_of, points_in, IsHull, IsSmall, IsLarge}
use Rattle.loop_scan.specs.Members.{indices}
use Rattle.loop_scan.proofs.Indices.{greatest-unique, least-unique}
use Rattle.loop_scan.proofs.Lists.{none_contained}

-- an index

abbrev LeftOver : Type 0
LeftOver = Result Left FindFault

rows_same : (rows others : List WideRow) → ◌≡◌ {A = LeftOver} (Ok (Rows rows)) (Ok (Rows others)) → rows ≡ others
rows_same rows others e = cc

same_range : (a b : Range) → a.low ≡ b.low → a.high ≡ b.high → a ≡ b
same_range a b low high = λ i. record { low = low i; high = high i }

module _ (system : Polyhedron) (j : ℕ) where
  once : (one other : LeftOver) → Eliminates system j one → Eliminates system j other → one ≢ Err NoMemory → other ≢ Err NoMemory → one ≡ other
  once one other p q n m = range_once (free_columns (Some j) system.width) (given_rows system.rows) one other p q n m

  rows_once : (rows others : List WideRow) → Eliminates system j (Ok (Rows rows)) → Eliminates system j (Ok (Rows others)) → rows ≡ others
  rows_once rows others p q = rows_same rows others (once (Ok (Rows rows)) (Ok (Rows others)) p q (λ e. cc) (λ e. cc))

  pub range_is : (a b : Range) → HasRange system j a → HasRange system j b → a ≡ b
  range_is a b p q =
      let here : IsRangeOf j (map affine_of q.0) a = subst (λ rows. IsRangeOf j (map affine_of rows) a) (rows_once p.0 q.0 p.1 q.1) p.2 in
      same_range a b (greatest-unique (flat_map (lower_bound j) (map affine_of q.0)) a.low b.low here.low q.2.low)
      (least-unique (flat_map (upper_bound j) (map affine_of q.0)) a.high b.high here.high q.2.high)

  pub unrefuted : (range : Range) → HasRange system j range → Refutes system j → ⊥
  unrefuted range p r =
      let e : ◌≡◌ {A = LeftOver} (Ok (Rows p.0)) (Ok Contradiction) = once (Ok (Rows p.0)) (Ok Contradiction) p.1 r (λ e. cc) (λ e. cc) in cc

  -- what is left gives a range wherever it is rows
  abbrev HasRangeIn : Left → Type 0
  HasRangeIn left = (rows : List WideRow) → left ≡ Rows rows → (range : Range) × IsRangeOf j (map affine_of rows) range

  module _ (left : Left) (answer : Eliminates system j (Ok left)) (has : HasRangeIn left) where
    not_by : (limit : Limits) → RefusesBy system j limit → ⊥
    not_by TooManyRows r = let e : ◌≡◌ {A = LeftOver} (Ok left) (Err (PassesLimit TooManyRows)) = once (Ok left) (Err (PassesLimit TooManyRows)) answer r (λ e. cc) (λ e. cc) in cc
    not_by Coordinate r =
        let e : ◌≡◌ {A = LeftOver} (Ok left) (Ok (Rows r.0)) = once (Ok left) (Ok (Rows r.0)) answer r.1 (λ e. cc) (λ e. cc) in
        let same : left ≡ Rows r.0 = cc in
        let found = has r.0 same in r.2 found.0 found.1
    not_by File r = absurd r
    not_by Commands r = absurd r
    not_by Size r = absurd r
    not_by Names r = absurd r
    not_by Columns r = absurd r
    not_by Pieces r = absurd r
    not_by Systems r = absurd r
    not_by Steps r = absurd r
    not_by BoxPoints r = absurd r
    not_by Points r = absurd r
    not_by Instances r = absurd r
    not_by Loads r = absurd r
    not_by Cells r = absurd r
    not_by Turns r = absurd r
    not_by Disjuncts r = absurd r

    not_refused : (fault : ScanFault) → RefusesIndex system j fault → ⊥
    not_refused Overflow r = let e : ◌≡◌ {A = LeftOver} (Ok left) (Err (LeavesRange r.0)) = once (Ok left) (Err (LeavesRange r.0)) answer r.1 (λ e. cc) (λ e. cc) in cc
    not_refused Entry r = absurd r
    not_refused (Limit limit) r = not_by limit r
    not_refused Memory r = absurd r

  pub ranged_unrefused : (range : Range) → HasRange system j range → (fault : ScanFault) → RefusesIndex system j fault → ⊥
  ranged_unrefused range p fault r =
      not_refused (Rows p.0) p.1
      (λ rows e. (range, subst (λ (xs : List WideRow). IsRangeOf j (map affine_of xs) range) (rows_same p.0 rows (ap (λ (l : Left). let answer : LeftOver = Ok l in answer) e)) p.2)) fault r

  pub refuted_unrefused : Refutes system j → (fault : ScanFault) → RefusesIndex system j fault → ⊥
  refuted_unrefused p fault r = not_refused Contradiction p (λ rows e. absurd (cc)) fault r

-- a disjunct

same_ranges : (a b : List Range) → length a ≡ length b → ((k : ℕ) → k < length a → range_of k a ≡ range_of k b) → a ≡ b
same_ranges a b n h = ext_get_or no_range a b n h

at_most : {A : Type 0} (k m : ℕ) → (k < m → A) → (m < k → A) → (k ≡ m → A) → A
at_most k m below above same = elim (cases_lt k m) [
  | inl l ↦ below l
  | inr g ↦ elim (cases_lt m k) [ inl l ↦ above l | inr h ↦ same (omega arith) ]
]

pub box_is : (system : Polyhedron) (a b : Option (List Range)) → IsBox system a → IsBox system b → a ≡ b
box_is system None None p q = refl
box_is system None (Some ranges) p q = absurd (unrefuted system p.0 (get_or ranges p.0 no_range) (q.1 p.0 no_range p.1) p.3)
box_is system (Some ranges) None p q = absurd (unrefuted system q.0 (get_or ranges q.0 no_range) (p.1 q.0 no_range q.1) q.3)
box_is system (Some ranges) (Some others) p q =
    ap (λ (rs : List Range). let box : Option (List Range) = Some rs in box)
    (same_ranges ranges others (p.0 ∙ sym q.0) (λ k l. let m : k < system.width = omega (arith, l, p.0) in range_is system k (range_of k ranges) (range_of k others) (p.1 k no_range m) (q.1 k no_range m)))

box_unrefused : (system : Polyhedron) (box : Option (List Range)) → IsBox system box → (fault : ScanFault) → RefusesBox system fault → ⊥
box_unrefused system None p fault r =
    at_most p.0 r.0
    (λ l. let has = r.2 p.0 l in unrefuted system p.0 has.0 has.1 p.3)
    (λ l. let has = p.2 r.0 l in ranged_unrefused system r.0 has.0 has.1 fault r.3)
    (λ e. refuted_unrefused system r.0 (subst (λ n. Refutes system n) e p.3) fault r.3)
box_unrefused system (Some ranges) p fault r = ranged_unrefused system r.0 (get_or ranges r.0 no_range) (p.1 r.0 no_range r.1) fault r.3

-- all disjuncts

boxes_are : (disjuncts : List Polyhedron) (a b : List (Option (List Range))) → AreBoxes disjuncts a → AreBoxes disjuncts b → a ≡ b
boxes_are [] [] [] p q = refl
boxes_are [] [] (box ∷ b) p q = absurd q
boxes_are [] (box ∷ a) b p q = absurd p
boxes_are (disjunct ∷ disjuncts) [] b p q = absurd p
boxes_are (disjunct ∷ disjuncts) (box ∷ a) [] p q = absurd q
boxes_are (disjunct ∷ disjuncts) (box ∷ a) (other ∷ b) p q =
    let first = box_is disjunct box other p.0 q.0 in
    let rest = boxes_are disjuncts a b p.1 q.1 in
    λ t. first t ∷ rest t

boxes_unrefused : (disjuncts : List Polyhedron) (boxes : List (Option (List Range))) → AreBoxes disjuncts boxes → (fault : ScanFault) → RefusesBoxes disjuncts fault → ⊥
boxes_unrefused [] boxes p fault r = r
boxes_unrefused (disjunct ∷ disjuncts) [] p fault r = absurd p
boxes_unrefused (disjunct ∷ disjuncts) (box ∷ boxes) p fault (inl here) = box_unrefused disjunct box p.0 fault here
boxes_unrefused (disjunct ∷ disjuncts) (box ∷ boxes) p fault (inr later) = boxes_unrefused disjuncts boxes p.1 fault later.2

-- a hull

hull_is : (width : ℕ) (boxes : List (List Range)) (a b : List Range) → IsHull width boxes a → IsHull width boxes b → a ≡ b
hull_is width boxes a b p q = same_ranges a b (p.indices ∙ sym q.indices) (λ k l. at k (omega (arith, l, p.indices)))
  where
    at : (k : ℕ) → k < width → range_of k a ≡ range_of k b
    at k l =
        same_range (range_of k a) (range_of k b)
        (least-unique (map (λ (box : List Range). (range_of k box).low) boxes) (range_of k a).low (range_of k b).low (p.lows k l) (q.lows k l))
        (greatest-unique (map (λ (box : List Range). (range_of k box).high) boxes) (range_of k a).high (range_of k b).high (p.highs k l) (q.highs k l))

few_without : (width : ℕ) (hull : List Range) → IsHull width [] hull → points_in hull ≡ 1
few_without zero hull p = ap points_in (nil_from_length hull p.indices)
few_without (suc width) hull p = absurd (none_contained (range_of 0 hull).low (p.lows 0 (omega arith)).0)

pub small_or_large : (width : ℕ) (boxes : List (Option (List Range))) → IsSmall width boxes → IsLarge width boxes → ⊥
small_or_large width boxes (inl empty) large =
    let one = few_without width large.0 (subst (λ (bs : List (List Range)). IsHull width bs large.0) empty large.1) in omega (arith, one, large.2)
small_or_large width boxes (inr small) large =
    let same = ap points_in (hull_is width (full_boxes boxes) small.0 large.0 small.1 large.1) in omega (arith, same, small.2, large.2)

-- a domain

module _ (domain : Union) (params : List ℤ) (boxes : List (Option (List Range))) (has : HasBoxes domain params boxes) where
  pub boxed_unrefused : (fault : ScanFault) → Refuses domain params fault → fault ≡ Memory
  boxed_unrefused Entry r = absurd (r has.entries)
  boxed_unrefused Overflow r = absurd (boxes_unrefused (domain_at_params params domain).disjuncts boxes has.disjuncts Overflow r.disjuncts)
  boxed_unrefused (Limit limit) (inl r) = absurd (r.2 has.coordinates)
  boxed_unrefused (Limit limit) (inr r) = absurd (boxes_unrefused (domain_at_params params domain).disjuncts boxes has.disjuncts (Limit limit) r.disjuncts)
  boxed_unrefused Memory r = refl

pub points_unrefused : (domain : Union) (params : List ℤ) (points : List (List ℤ)) → PointsAnswers domain params (Ok points) → IsUnrefused domain params
points_unrefused domain params points p fault (inl r) = boxed_unrefused domain params p.2.0 p.2.1 fault r
points_unrefused domain params points p fault (inr r) =
    let same = boxes_are (domain_at_params params domain).disjuncts p.2.0 r.1.0 p.2.1.disjuncts r.1.1.disjuncts in
    absurd (small_or_large (indices domain params) r.1.0 (subst (λ bs. IsSmall (indices domain params) bs) same p.2.2) r.1.2)

pub ok_unrefused : (domain : Union) (params : List ℤ) (result : Result (List (List ℤ)) ScanFault) → PointsAnswers domain params result → IfOk result (λ _. IsUnrefused domain params)
ok_unrefused domain params (Ok points) p = points_unrefused domain params points p
ok_unrefused domain params (Err fault) p = tt
