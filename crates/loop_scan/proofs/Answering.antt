-- From the answers for indices to those for boxes, and from boxes to a domain's.
use Rattle.std.proofs.Common.{◌≡◌, ℕ, zero, suc, ◌+◌, ◌<◌, List, [], ◌∷◌, ◌++◌, length, take, get_or, sym, subst, ◌∙◌, arith, inl, inr}
use Rattle.std.specs.Prelude.{ℤ, pos, Option, Some, None, Err}
use Rattle.std.specs.List.{All, AllZip}
use Rattle.std.proofs.lemmas.List.{get_or_append_left, get_or_push}
use Rattle.std.proofs.lemmas.List.Elements.{All-nil, All-cons, All-head, All-tail}
use Rattle.az_lin.specs.Affine.{Polyhedron, Union, IsOver, Holds, IsCoordinate, HasEntryDomain}
use Rattle.az_lin.specs.Columns.{domain_at_params}
use Rattle.loop_scan.specs.declared.range.Range.{Range}
use Rattle.loop_scan.specs.declared.fault.ScanFault.{ScanFault}
use Rattle.loop_scan.specs.declared.fault.ScanFault.TheVariants.{Overflow, Entry, Limit, Memory}
use Rattle.loop_scan.specs.Boxes.{HasRange, HaveRanges, IsBox, RefusesBox, RefusesBoxes, Refuses}
use Rattle.loop_scan.specs.Hulls.{no_range}
use Rattle.loop_scan.specs.Nest.Levels.{IsIn}
use Rattle.loop_scan.specs.Nest.Indices.{IndexAnswers, Bounds}
use Rattle.loop_scan.specs.Nest.Joined.{IsBoxOver}
use Rattle.loop_scan.specs.Nest.Answered.{Faults}
use Rattle.loop_scan.proofs.Firsts.{below_one}
use Rattle.loop_scan.proofs.Indices.{AllZip-from_places}

-- an index that is refused
pub refused_at : (system : Polyhedron) (k : ℕ) (fault : ScanFault) → k < system.width → HaveRanges system k → IndexAnswers system k (Err fault) → Faults (RefusesBox system) fault
refused_at system k Overflow h ranges a = (k, h, ranges, a)
refused_at system k Entry h ranges a = absurd a
refused_at system k (Limit limit) h ranges a = (k, h, ranges, a)
refused_at system k Memory h ranges a = tt

pub have_ranges : (system : Polyhedron) (k : ℕ) (ranges : List Range) → ((j : ℕ) (d : Range) → j < k → HasRange system j (get_or ranges j d)) → HaveRanges system k
have_ranges system k ranges each j h = (get_or ranges j no_range, each j no_range h)

-- one more range
pub each_more : (P : ℕ → Range → Type 0) (ranges : List Range) (range : Range) (k : ℕ) → length ranges ≡ k → P k range
    → ((j : ℕ) (d : Range) → j < k → P j (get_or ranges j d)) → (j : ℕ) (d : Range) → j < k + 1 → P j (get_or (ranges ++ range ∷ []) j d)
each_more P ranges range k count here each j d h =
    below_one j k h
    (λ l. subst (P j) (sym (get_or_append_left ranges (range ∷ []) d j (omega arith))) (each j d l))
    (λ e. let Q : ℕ → Type 0 = λ n. P n (get_or (ranges ++ range ∷ []) n d) in
    subst Q (sym e) (subst (P k) (sym (get_or_push ranges range d k count)) here))

-- all ranges of a box
pub box_bounds : (system : Polyhedron) (ranges : List Range) → length ranges ≡ system.width
    → ((k : ℕ) (d : Range) → k < system.width → HasRange system k (get_or ranges k d))
    → ((z : List ℤ) → length z ≡ system.width → Holds system z → (k : ℕ) (d : Range) → k < system.width → IsIn (get_or ranges k d) (get_or z k (pos 0)))
    → Bounds system (Some ranges)
box_bounds system ranges count each sound = record {
  points = λ z e h. AllZip-from_places ranges z (e ∙ sym count) (λ k d l. sound z e h k d (omega (arith, l)));
  coordinates = λ k d l. let has = each k d (omega (arith, l)) in (has.2.low_small, has.2.high_small);
}

-- a disjunct that is refused, after boxes of the earlier ones
refused_later : (disjuncts : List Polyhedron) (boxes : List (Option (List Range))) (i : ℕ) (d : Polyhedron) (fault : ScanFault) → i < length disjuncts
    → AllZip IsBox (take i disjuncts) boxes → RefusesBox (get_or disjuncts i d) fault → RefusesBoxes disjuncts fault
refused_later [] boxes i d fault h are refuses = absurd (omega arith)
refused_later (disjunct ∷ disjuncts) boxes zero d fault h are refuses = inl refuses
refused_later (disjunct ∷ disjuncts) [] (suc i) d fault h are refuses = absurd are
refused_later (disjunct ∷ disjuncts) (box ∷ boxes) (suc i) d fault h are refuses =
    inr (box, are.0, refused_later disjuncts boxes i d fault (omega arith) are.1 refuses)

pub refused_disjunct : (disjuncts : List Polyhedron) (boxes : List (Option (List Range))) (i : ℕ) (disjunct : Polyhedron) (fault : ScanFault) → i < length disjuncts
    → disjunct ≡ get_or disjuncts i disjunct → AllZip IsBox (take i disjuncts) boxes → Faults (RefusesBox disjunct) fault → Faults (RefusesBoxes disjuncts) fault
refused_disjunct disjuncts boxes i disjunct Overflow h is are a = refused_later disjuncts boxes i disjunct Overflow h are (subst (λ s. RefusesBox s Overflow) is a)
refused_disjunct disjuncts boxes i disjunct Entry h is are a = absurd a
refused_disjunct disjuncts boxes i disjunct (Limit limit) h is are a = refused_later disjuncts boxes i disjunct (Limit limit) h are (subst (λ s. RefusesBox s (Limit limit)) is a)
refused_disjunct disjuncts boxes i disjunct Memory h is are a = tt

-- a domain that is refused
pub refused_domain : (domain : Union) (params : List ℤ) (at : Union) (fault : ScanFault) → at ≡ domain_at_params params domain → HasEntryDomain (domain_at_params params domain)
    → All IsCoordinate params → Faults (RefusesBoxes at.disjuncts) fault → Refuses domain params fault
refused_domain domain params at Overflow is fits small a =
    record { entries = fits; coordinates = small; disjuncts = subst (λ (d : Union). RefusesBoxes d.disjuncts Overflow) is a }
refused_domain domain params at Entry is fits small a = absurd a
refused_domain domain params at (Limit limit) is fits small a =
    inr (record { entries = fits; coordinates = small; disjuncts = subst (λ (d : Union). RefusesBoxes d.disjuncts (Limit limit)) is a })
refused_domain domain params at Memory is fits small a = tt

-- each box has the indices
pub boxes_over : (width : ℕ) (disjuncts : List Polyhedron) (boxes : List (Option (List Range))) → All (IsOver width) disjuncts → AllZip IsBox disjuncts boxes
    → AllZip Bounds disjuncts boxes → All (IsBoxOver width) boxes
boxes_over width [] [] over are bounds = All-nil (IsBoxOver width)
boxes_over width [] (box ∷ boxes) over are bounds = absurd are
boxes_over width (disjunct ∷ disjuncts) [] over are bounds = absurd are
boxes_over width (disjunct ∷ disjuncts) (box ∷ boxes) over are bounds =
    All-cons (IsBoxOver width) box boxes (one box are.0 bounds.0)
    (boxes_over width disjuncts boxes (All-tail (IsOver width) disjunct disjuncts over) are.1 bounds.1)
  where
    one : (b : Option (List Range)) → IsBox disjunct b → Bounds disjunct b → IsBoxOver width b
    one None is bound = tt
    one (Some ranges) is bound = (is.0 ∙ All-head (IsOver width) disjunct disjuncts over, bound.coordinates)
