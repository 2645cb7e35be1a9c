-- The best bounds of rows over one index, and that they hold all its numbers.
use Rattle.std.proofs.Common.{◌≡◌, ◌≢◌, ℕ, suc, ◌+◌, ◌<◌, ◌^◌, true, false, List, [], ◌∷◌, ◌++◌, length, take, map, get_or, refl, sym, subst, ap, ◌∙◌, arith, ⊎_elim, unsigned_abs}
use Rattle.std.specs.Prelude.{ℤ, pos, neg_ℤ, ◌+ℤ◌, ◌*ℤ◌, ◌≤ℤ◌, ◌<ℤ◌, int_lt, Contains, Option, Some, None}
use Rattle.std.specs.Int.{int_div_euclid}
use Rattle.std.specs.List.{All, AllZip, flat_map}
use Rattle.std.proofs.lemmas.Int.{ints, by_lt_z}
use Rattle.std.proofs.lemmas.List.{append-nil, take_more, map-append, get_or-take, length-take}
use Rattle.std.proofs.lemmas.List.Elements.{All-nil, All-cons, All-push, All-contains, All-weaker, Contains-push, Contains-append_left}
use Rattle.std.proofs.lemmas.List.Concat.{flat_map-append}
use Rattle.az_lin.specs.Affine.{Affine, dot, value_at, IsAtLeastZero}
use Rattle.farkas_find.specs.Rows.{affine_of}
use Rattle.farkas_find.specs.Answers.{LacksOthers}
use Rattle.farkas_find.specs.declared.wide.WideRow.{WideRow}
use Rattle.loop_scan.specs.declared.range.Range.{Range}
use Rattle.loop_scan.specs.Boxes.{coef_of, lower_bound, upper_bound, IsGreatest, IsLeast, IsRangeOf}
use Rattle.loop_scan.specs.Nest.Levels.{IsIn, HasCoordinates}
use Rattle.loop_scan.specs.Nest.Indices.{IsGreatestOf, IsLeastOf, HasSmallEnds}
use Rattle.loop_scan.proofs.Lists.{Contains-flat_map_cases, first_or_rest, none_contained}
use Rattle.loop_scan.proofs.Ranges.{low_below, high_above}
use Rattle.loop_scan.proofs.Bounding.{dot-cut, dot-zeros}

-- one more bound
pub greatest-same : (bounds : List ℤ) (low : Option ℤ) → IsGreatestOf bounds low → IsGreatestOf (bounds ++ []) low
greatest-same bounds low h = let P : List ℤ → Type 0 = λ bs. IsGreatestOf bs low in subst P (sym (append-nil bounds)) h

pub greatest-first : (bounds : List ℤ) (b : ℤ) → IsGreatestOf bounds None → IsGreatestOf (bounds ++ b ∷ []) (Some b)
greatest-first bounds b h =
    let P : List ℤ → Type 0 = λ bs. IsGreatest (bs ++ b ∷ []) b in
    subst P (sym h) (Contains-push [] b, All-cons (λ x. x ≤ℤ b) b [] (omega (arith, ints)) (All-nil (λ x. x ≤ℤ b)))

pub greatest-kept : (bounds : List ℤ) (low b : ℤ) → b ≤ℤ low → IsGreatestOf bounds (Some low) → IsGreatestOf (bounds ++ b ∷ []) (Some low)
greatest-kept bounds low b le h = (Contains-append_left bounds (b ∷ []) low h.0, All-push (λ x. x ≤ℤ low) bounds b h.1 le)

pub greatest-new : (bounds : List ℤ) (low b : ℤ) → low ≤ℤ b → IsGreatestOf bounds (Some low) → IsGreatestOf (bounds ++ b ∷ []) (Some b)
greatest-new bounds low b le h = (
  Contains-push bounds b,
  All-push (λ x. x ≤ℤ b) bounds b (All-weaker (λ x. x ≤ℤ low) (λ x. x ≤ℤ b) (λ x l. omega (arith, ints, l)) bounds h.1) (omega (arith, ints)),
)

pub least-same : (bounds : List ℤ) (high : Option ℤ) → IsLeastOf bounds high → IsLeastOf (bounds ++ []) high
least-same bounds high h = let P : List ℤ → Type 0 = λ bs. IsLeastOf bs high in subst P (sym (append-nil bounds)) h

pub least-first : (bounds : List ℤ) (b : ℤ) → IsLeastOf bounds None → IsLeastOf (bounds ++ b ∷ []) (Some b)
least-first bounds b h =
    let P : List ℤ → Type 0 = λ bs. IsLeast (bs ++ b ∷ []) b in
    subst P (sym h) (Contains-push [] b, All-cons (λ x. b ≤ℤ x) b [] (omega (arith, ints)) (All-nil (λ x. b ≤ℤ x)))

pub least-kept : (bounds : List ℤ) (high b : ℤ) → high ≤ℤ b → IsLeastOf bounds (Some high) → IsLeastOf (bounds ++ b ∷ []) (Some high)
least-kept bounds high b le h = (Contains-append_left bounds (b ∷ []) high h.0, All-push (λ x. high ≤ℤ x) bounds b h.1 le)

pub least-new : (bounds : List ℤ) (high b : ℤ) → b ≤ℤ high → IsLeastOf bounds (Some high) → IsLeastOf (bounds ++ b ∷ []) (Some b)
least-new bounds high b le h = (
  Contains-push bounds b,
  All-push (λ x. b ≤ℤ x) bounds b (All-weaker (λ x. high ≤ℤ x) (λ x. b ≤ℤ x) (λ x l. omega (arith, ints, l)) bounds h.1) (omega (arith, ints)),
)

-- the bound of a row
pub lower_bound-none : (column : ℕ) (row : Affine) → coef_of column row ≤ℤ pos 0 → lower_bound column row ≡ []
lower_bound-none column row h = let e : int_lt (pos 0) (coef_of column row) ≡ false = grind (arith, ints) in rw e refl

pub lower_bound-some : (column : ℕ) (row : Affine) → pos 0 <ℤ coef_of column row → lower_bound column row ≡ neg_ℤ (int_div_euclid row.konst (coef_of column row)) ∷ []
lower_bound-some column row h = let e : int_lt (pos 0) (coef_of column row) ≡ true = grind (arith, ints) in rw e refl

pub upper_bound-none : (column : ℕ) (row : Affine) → pos 0 ≤ℤ coef_of column row → upper_bound column row ≡ []
upper_bound-none column row h = let e : int_lt (coef_of column row) (pos 0) ≡ false = grind (arith, ints) in rw e refl

pub upper_bound-some : (column : ℕ) (row : Affine) → coef_of column row <ℤ pos 0 → upper_bound column row ≡ int_div_euclid row.konst (neg_ℤ (coef_of column row)) ∷ []
upper_bound-some column row h = let e : int_lt (coef_of column row) (pos 0) ≡ true = grind (arith, ints) in rw e refl

-- rows one after another
pub bounds-more : (f : Affine → List ℤ) (rows : List WideRow) (i : ℕ) (d : WideRow) → i < length rows
    → flat_map f (map affine_of (take i rows)) ++ f (affine_of (get_or rows i d)) ≡ flat_map f (map affine_of (take (i + 1) rows))
bounds-more f rows i d h =
    let row = affine_of (get_or rows i d) in
    ap (λ bs. flat_map f (map affine_of (take i rows)) ++ bs) (sym (append-nil (f row)))
    ∙ sym (ap (λ rs. flat_map f (map affine_of rs)) (take_more rows i d h)
    ∙ ap (flat_map f) (map-append affine_of (take i rows) (get_or rows i d ∷ []))
    ∙ flat_map-append f (map affine_of (take i rows)) (row ∷ []))

-- there is one greatest bound
pub greatest-unique : (bounds : List ℤ) (a b : ℤ) → IsGreatest bounds a → IsGreatest bounds b → a ≡ b
greatest-unique bounds a b g h =
    let up = All-contains (λ x. x ≤ℤ b) bounds a h.1 g.0 in
    let down = All-contains (λ x. x ≤ℤ a) bounds b g.1 h.0 in
    omega (arith, ints, up, down)

pub least-unique : (bounds : List ℤ) (a b : ℤ) → IsLeast bounds a → IsLeast bounds b → a ≡ b
least-unique bounds a b g h =
    let up = All-contains (λ x. b ≤ℤ x) bounds a h.1 g.0 in
    let down = All-contains (λ x. a ≤ℤ x) bounds b g.1 h.0 in
    omega (arith, ints, up, down)

-- a row that has one column alone
dot-alone : (cs z : List ℤ) (k : ℕ) → k < length cs → k < length z → ((j : ℕ) → j < length cs → j ≢ k → get_or cs j (pos 0) ≡ pos 0)
    → dot cs z ≡ get_or cs k (pos 0) *ℤ get_or z k (pos 0)
dot-alone cs z k h i zeros =
    let cut = dot-cut cs z k h i (λ j l m. zeros j m (λ e. omega arith)) in
    let front : dot (take k cs) (take k z) ≡ pos 0 = dot-zeros (take k cs) (take k z)
    (λ j l. get_or-take k cs j (pos 0) (omega (arith, l, length-take k cs)) ∙ zeros j (omega (arith, l, length-take k cs)) (λ e. omega (arith, l, length-take k cs))) in
    omega (arith, ints, cut, front)

module _ (width column : ℕ) (z : List ℤ) (inside : column < width) (long : length z ≡ width) where
  value_alone : (row : Affine) → length row.coefs ≡ width → LacksOthers width column row → value_at row z ≡ (coef_of column row *ℤ get_or z column (pos 0)) +ℤ row.konst
  value_alone row wide lacks =
      let alone = dot-alone row.coefs z column (omega arith) (omega arith) (λ j l n. lacks j (omega arith) n) in omega (arith, ints, alone)

  at_least : (row : Affine) (b : ℤ) → length row.coefs ≡ width → LacksOthers width column row → IsAtLeastZero z row → Contains (lower_bound column row) b → b ≤ℤ get_or z column (pos 0)
  at_least row b wide lacks h =
      by_lt_z (pos 0) (coef_of column row)
      (λ positive c. ⊎_elim (λ e. let low = low_below (coef_of column row) row.konst (get_or z column (pos 0)) positive (let v = value_alone row wide lacks in omega (arith, ints, h, v)) in
      let P : ℤ → Type 0 = λ n. n ≤ℤ get_or z column (pos 0) in subst P (sym e) low)
      (λ r. absurd (none_contained b r))
      (first_or_rest (neg_ℤ (int_div_euclid row.konst (coef_of column row))) [] b (let P : List ℤ → Type 0 = λ bs. Contains bs b in subst P (lower_bound-some column row positive) c)))
      (λ other c. absurd (none_contained b (let P : List ℤ → Type 0 = λ bs. Contains bs b in subst P (lower_bound-none column row other) c)))

  at_most : (row : Affine) (b : ℤ) → length row.coefs ≡ width → LacksOthers width column row → IsAtLeastZero z row → Contains (upper_bound column row) b → get_or z column (pos 0) ≤ℤ b
  at_most row b wide lacks h =
      by_lt_z (coef_of column row) (pos 0)
      (λ negative c. ⊎_elim (λ e. let high = high_above (coef_of column row) row.konst (get_or z column (pos 0)) negative (let v = value_alone row wide lacks in omega (arith, ints, h, v)) in
      let P : ℤ → Type 0 = λ n. get_or z column (pos 0) ≤ℤ n in subst P (sym e) high)
      (λ r. absurd (none_contained b r))
      (first_or_rest (int_div_euclid row.konst (neg_ℤ (coef_of column row))) [] b (let P : List ℤ → Type 0 = λ bs. Contains bs b in subst P (upper_bound-some column row negative) c)))
      (λ other c. absurd (none_contained b (let P : List ℤ → Type 0 = λ bs. Contains bs b in subst P (upper_bound-none column row other) c)))

  -- so the range of such rows holds the coordinate of each point at which they are at least 0
  pub range_holds : (rows : List Affine) (range : Range) → All (λ row. length row.coefs ≡ width) rows → All (LacksOthers width column) rows → All (IsAtLeastZero z) rows
      → IsRangeOf column rows range → IsIn range (get_or z column (pos 0))
  range_holds rows range wide lacks hold is =
      let low = Contains-flat_map_cases (lower_bound column) rows range.low is.low.0 in
      let high = Contains-flat_map_cases (upper_bound column) rows range.high is.high.0 in (
        at_least low.0 range.low (All-contains (λ row. length row.coefs ≡ width) rows low.0 wide low.1) (All-contains (LacksOthers width column) rows low.0 lacks low.1) (All-contains (IsAtLeastZero z) rows low.0 hold low.1) low.2,
        at_most high.0 range.high (All-contains (λ row. length row.coefs ≡ width) rows high.0 wide high.1) (All-contains (LacksOthers width column) rows high.0 lacks high.1) (All-contains (IsAtLeastZero z) rows high.0 hold high.1) high.2,
      )

-- the numbers between coordinates are coordinates
pub HasCoordinates-ends : (range : Range) → HasSmallEnds range → HasCoordinates range
HasCoordinates-ends range ends x inside = between range.low range.high x ends.0 ends.1 inside.0 inside.1
  where
    between : (low high x : ℤ) → unsigned_abs low < 2 ^ 40 → unsigned_abs high < 2 ^ 40 → low ≤ℤ x → x ≤ℤ high → unsigned_abs x < 2 ^ 40
    between low high x p q h k = omega (arith, ints)

-- index by index, and place by place
pub AllZip-from_places : (ranges : List Range) (z : List ℤ) → length z ≡ length ranges
    → ((k : ℕ) (d : Range) → k < length ranges → IsIn (get_or ranges k d) (get_or z k (pos 0))) → AllZip IsIn ranges z
AllZip-from_places [] [] e h = tt
AllZip-from_places [] (x ∷ z) e h = absurd (omega arith)
AllZip-from_places (range ∷ ranges) [] e h = absurd (omega arith)
AllZip-from_places (range ∷ ranges) (x ∷ z) e h = (h 0 range (omega arith), AllZip-from_places ranges z (omega arith) (λ k d l. h (suc k) d (omega arith)))
