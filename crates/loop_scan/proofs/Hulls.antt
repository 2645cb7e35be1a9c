-- Boxes joined to their hull, and the number of its points.
use Rattle.std.proofs.Common.{◌≡◌, ℕ, zero, suc, ◌*◌, ◌<◌, ◌≤◌, min, Bool, true, false, cond, List, [], ◌∷◌, ◌++◌, length, map, take, drop, get_or, refl, sym, subst, ap, ◌∙◌, arith, inl, inr}
use Rattle.std.proofs.Math.Nat.{mul_assoc, mul-le-mul_right}
use Rattle.std.specs.Prelude.{ℤ, int_lt, Option, Some, None}
use Rattle.std.specs.Int.{int_max, int_min}
use Rattle.std.specs.List.{All, list_all}
use Rattle.std.proofs.lemmas.Int.{ints}
use Rattle.std.proofs.lemmas.Bool.{and_parts, and_from, cases_lt}
use Rattle.std.proofs.lemmas.List.{append-nil, map-append, drop_all, take_all}
use Rattle.std.proofs.lemmas.List.Elements.{All-nil, All-cons, All-head, All-tail, All-get_or, All-from_get_or}
use Rattle.az_lin.specs.Affine.{IsCoordinate}
use Rattle.loop_scan.specs.declared.range.Range.{Range}
use Rattle.loop_scan.specs.Boxes.{IsGreatest, IsLeast}
use Rattle.loop_scan.specs.Hulls.{HasNumber, has_number, full_boxes, no_range, range_of, IsHull, size, points_in}
use Rattle.loop_scan.specs.Nest.Indices.{HasSmallEnds}
use Rattle.loop_scan.specs.Nest.Joined.{joined, IsHullOf}
use Rattle.loop_scan.proofs.Ranges.{lt_cases}
use Rattle.loop_scan.proofs.Indices.{greatest-kept, greatest-new, least-kept, least-new, least-first, greatest-first}

-- a box is full where each range has a number
numbers-test : (range : Range) → has_number range ≡ true → HasNumber range
numbers-test range e = grind (arith, ints)

test-numbers : (range : Range) → HasNumber range → has_number range ≡ true
test-numbers range h = grind (arith, ints)

pub full-test : (ranges : List Range) → list_all has_number ranges ≡ true → All HasNumber ranges
full-test [] e = All-nil HasNumber
full-test (range ∷ ranges) e =
    let both = and_parts (has_number range) (list_all has_number ranges) e in
    All-cons HasNumber range ranges (numbers-test range both.0) (full-test ranges both.1)

pub test-full : (ranges : List Range) → All HasNumber ranges → list_all has_number ranges ≡ true
test-full [] all = refl
test-full (range ∷ ranges) all =
    and_from (has_number range) (list_all has_number ranges) (test-numbers range (All-head HasNumber range ranges all)) (test-full ranges (All-tail HasNumber range ranges all))

test_fails : (b : Bool) → (b ≡ true → ⊥) → b ≡ false
test_fails true h = absurd (h refl)
test_fails false h = refl

-- the full boxes of two lists
abbrev Boxes : Type 0
Boxes = List (Option (List Range))

chosen-append : (b : Bool) (box : List Range) (xs ys : List (List Range)) → cond b (box ∷ (xs ++ ys)) (xs ++ ys) ≡ cond b (box ∷ xs) xs ++ ys
chosen-append true box xs ys = refl
chosen-append false box xs ys = refl

pub full-append : (xs ys : Boxes) → full_boxes (xs ++ ys) ≡ full_boxes xs ++ full_boxes ys
full-append [] ys = refl
full-append (None ∷ xs) ys = full-append xs ys
full-append (Some box ∷ xs) ys =
    ap (λ rest. cond (list_all has_number box) (box ∷ rest) rest) (full-append xs ys)
    ∙ chosen-append (list_all has_number box) box (full_boxes xs) (full_boxes ys)

pub full-none : (xs : Boxes) → full_boxes (xs ++ None ∷ []) ≡ full_boxes xs
full-none xs = full-append xs (None ∷ []) ∙ append-nil (full_boxes xs)

pub full-empty : (xs : Boxes) (box : List Range) → (All HasNumber box → ⊥) → full_boxes (xs ++ Some box ∷ []) ≡ full_boxes xs
full-empty xs box h =
    let e : list_all has_number box ≡ false = test_fails (list_all has_number box) (λ t. h (full-test box t)) in
    full-append xs (Some box ∷ []) ∙ ap (λ b. full_boxes xs ++ cond b (box ∷ []) []) e ∙ append-nil (full_boxes xs)

pub full-more : (xs : Boxes) (box : List Range) → All HasNumber box → full_boxes (xs ++ Some box ∷ []) ≡ full_boxes xs ++ box ∷ []
full-more xs box all =
    full-append xs (Some box ∷ []) ∙ ap (λ b. full_boxes xs ++ cond b (box ∷ []) []) (test-full box all)

-- one more number for the least and the greatest
least-min : (xs : List ℤ) (a b : ℤ) → IsLeast xs a → IsLeast (xs ++ b ∷ []) (int_min a b)
least-min xs a b is =
    lt_cases (λ t. IsLeast (xs ++ b ∷ []) (cond t b a)) b a (λ l. least-new xs a b (omega (arith, ints)) is) (λ g. least-kept xs a b g is)

greatest-max : (xs : List ℤ) (a b : ℤ) → IsGreatest xs a → IsGreatest (xs ++ b ∷ []) (int_max b a)
greatest-max xs a b is =
    lt_cases (λ t. IsGreatest (xs ++ b ∷ []) (cond t b a)) a b (λ l. greatest-new xs a b (omega (arith, ints)) is) (λ g. greatest-kept xs a b g is)

-- the hull of one box, and with one more
pub hull-first : (width : ℕ) (box : List Range) → length box ≡ width → IsHull width (box ∷ []) box
hull-first width box count = record {
  indices = count;
  lows = λ k h. least-first [] (range_of k box).low refl;
  highs = λ k h. greatest-first [] (range_of k box).high refl;
}

pub hull-more : (width : ℕ) (boxes : List (List Range)) (box old new : List Range) → IsHull width boxes old → length new ≡ width
    → ((k : ℕ) → k < width → range_of k new ≡ joined (range_of k old) (range_of k box)) → IsHull width (boxes ++ box ∷ []) new
hull-more width boxes box old new is count each = record {
  indices = count;
  lows = λ k h.
      let low : List Range → ℤ = λ b. (range_of k b).low in
      let more = least-min (map low boxes) (low old) (low box) (is.lows k h) in
      subst (λ xs. IsLeast xs (low new)) (sym (map-append low boxes (box ∷ []))) (subst (λ n. IsLeast (map low boxes ++ low box ∷ []) n) (sym (ap (λ (r : Range). r.low) (each k h))) more);
  highs = λ k h.
      let high : List Range → ℤ = λ b. (range_of k b).high in
      let more = greatest-max (map high boxes) (high old) (high box) (is.highs k h) in
      subst (λ xs. IsGreatest xs (high new)) (sym (map-append high boxes (box ∷ []))) (subst (λ n. IsGreatest (map high boxes ++ high box ∷ []) n) (sym (ap (λ (r : Range). r.high) (each k h))) more);
}

chosen_small : (b : Bool) (x y : ℤ) → IsCoordinate x → IsCoordinate y → IsCoordinate (cond b x y)
chosen_small true x y p q = p
chosen_small false x y p q = q

pub ends-joined : (left right : Range) → HasSmallEnds left → HasSmallEnds right → HasSmallEnds (joined left right)
ends-joined left right p q =
    (chosen_small (int_lt right.low left.low) right.low left.low q.0 p.0, chosen_small (int_lt left.high right.high) right.high left.high q.1 p.1)

pub ends-more : (old box new : List Range) → length new ≡ length old → length box ≡ length old
    → ((k : ℕ) → k < length old → range_of k new ≡ joined (range_of k old) (range_of k box)) → All HasSmallEnds old → All HasSmallEnds box → All HasSmallEnds new
ends-more old box new e f each p q =
    All-from_get_or HasSmallEnds new no_range (λ k h.
    subst HasSmallEnds (sym (each k (omega arith)))
    (ends-joined (get_or old k no_range) (get_or box k no_range) (All-get_or HasSmallEnds old k no_range (omega arith) p) (All-get_or HasSmallEnds box k no_range (omega arith) q)))

-- how many points there are
pub points_in-push : (ranges : List Range) (range : Range) → points_in (ranges ++ range ∷ []) ≡ points_in ranges * size range
points_in-push [] range = omega arith
points_in-push (r ∷ ranges) range = ap (λ n. size r * n) (points_in-push ranges range) ∙ sym (mul_assoc (size r) (points_in ranges) (size range))

pub capped : (p s cap : ℕ) → min (min p cap * s) cap ≡ min (p * s) cap
capped p zero cap = omega arith
capped p (suc s) cap =
    elim (cases_lt p cap) [
      | inl l ↦ ap (λ n. min (n * suc s) cap) (let e : min p cap ≡ p = omega arith in e)
      | inr g ↦ (let e : min p cap ≡ cap = omega arith in
          let big : cap * suc s ≤ p * suc s = mul-le-mul_right (suc s) g in
          let own : cap ≤ cap * suc s = omega arith in
          ap (λ n. min (n * suc s) cap) e ∙ omega arith)
    ]

-- the hull of boxes that have the same full boxes, of the first full box, and of one more
pub hull_same : (width : ℕ) (xs ys : Boxes) (hull : Option (List Range)) → full_boxes xs ≡ full_boxes ys → IsHullOf width xs hull → IsHullOf width ys hull
hull_same width xs ys None e h = sym e ∙ h
hull_same width xs ys (Some hull) e h = subst (λ boxes. IsHull width boxes hull) e h

pub hull_one : (width : ℕ) (xs : Boxes) (box : List Range) → full_boxes xs ≡ [] → All HasNumber box → length box ≡ width → IsHullOf width (xs ++ Some box ∷ []) (Some box)
hull_one width xs box none all count =
    subst (λ boxes. IsHull width boxes box) (sym (full-more xs box all ∙ ap (λ boxes. boxes ++ box ∷ []) none)) (hull-first width box count)

pub hull_joined : (width : ℕ) (xs : Boxes) (box old new : List Range) → All HasNumber box → IsHullOf width xs (Some old) → length new ≡ width
    → ((k : ℕ) → k < width → range_of k new ≡ joined (range_of k old) (range_of k box)) → IsHullOf width (xs ++ Some box ∷ []) (Some new)
hull_joined width xs box old new all is count each =
    subst (λ boxes. IsHull width boxes new) (sym (full-more xs box all)) (hull-more width (full_boxes xs) box old new is count each)

-- a slice that is written back whole
pub refilled : (len : ℕ) (new old : List Range) → length new ≡ length old → length old ≡ len → take len (new ++ drop (length new) old) ≡ new
refilled len new old e f =
    ap (λ rest. take len (new ++ rest)) (drop_all (length new) old (omega arith)) ∙ ap (take len) (append-nil new) ∙ take_all len new (omega arith)
