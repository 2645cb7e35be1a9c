-- Tidying leaves one row for each list of coefficients, and loses no whole point.
use Rattle.std.proofs.Common.{◌≡◌, ◌≢◌, ◌∙◌, ℕ, suc, ◌+◌, ◌-◌, ◌<◌, ap, refl, sym, subst, arith, Bool, true, false, not, ◌&&◌, int_lt, int_le, List, [], ◌∷◌, length, map, get_or, take, drop, ℤ, pos, ◌≤ℤ◌, ◌<ℤ◌, Result, Ok, Err, IfOk, length-drop}
use Rattle.std.specs.List.{All, AllPairs, list_any, range_with_len, items_where_true}
use Rattle.std.specs.Cmp.Lexicographic.{pointwise}
use Rattle.std.specs.Cmp.Rules.{signed_items}
use Rattle.std.specs.Ordering.{int_eq}
use Rattle.std.proofs.lemmas.Int.{ints, by_lt_z}
use Rattle.std.proofs.lemmas.List.{get_or-take, get_or-drop, length-take-le, get_or_default, get_or-map, length-map}
use Rattle.std.proofs.lemmas.List.Elements.{All-nil, All-cons, All-head, All-tail, All-weaker}
use Rattle.std.proofs.lemmas.List.Folds.{list_any_at}
use Rattle.std.proofs.lemmas.List.FromFn.{get_or-map-range_with_len}
use Rattle.az_lin.specs.Affine.{Affine, IsAtLeastZero}
use Rattle.az_lin.specs.declared.step.RatPoint.{RatPoint}
use Rattle.az_lin.proofs.Lists.{AllPairs-nil, AllPairs-cons, All-map_same}
use Rattle.farkas_find.specs.declared.numbered.Numbered.{Numbered}
use Rattle.farkas_find.specs.declared.wide.WideRow.{WideRow}
use Rattle.farkas_find.specs.declared.left.Left.{Left}
use Rattle.farkas_find.specs.declared.left.Left.TheVariants.{Contradiction, Rows}
use Rattle.farkas_find.specs.declared.fault.FindFault.{FindFault}
use Rattle.farkas_find.specs.Tidying.{row_at, is_constant, is_at_least_as_strong, is_stronger, stays, strongest, rounded_rows, tidied}
use Rattle.farkas_find.specs.Combining.{numbered_from}
use Rattle.farkas_find.specs.Rows.{affine_of}
use Rattle.farkas_find.specs.Stages.{given_rows}
use Rattle.farkas_find.specs.Answers.{TidyAnswers, HoldsIn}
use Rattle.farkas_find.specs.Remaining.{HasNoTwins}
use Rattle.farkas_find.proofs.Paired.{left_of_and, right_of_and}
use Rattle.farkas_find.proofs.Untidied.{meets_untidied, meets_all_rounded, meets_all}
use Rattle.farkas_find.proofs.Values.{Meets}

-- what two rows with the same coefficients say of each other
as_strong : (it other : Numbered) → other.row.coefs ≡ it.row.coefs → other.row.konst ≤ℤ it.row.konst → is_at_least_as_strong it other ≡ true
unfolding is_at_least_as_strong
as_strong it other same below =
    let less : int_le other.row.konst it.row.konst ≡ true = grind (arith, ints) in
    let equal : pointwise int_eq other.row.coefs it.row.coefs ≡ true = (signed_items other.row.coefs it.row.coefs).1 same in
    rw (less, equal) refl

stronger : (it other : Numbered) → other.row.coefs ≡ it.row.coefs → other.row.konst <ℤ it.row.konst → is_stronger it other ≡ true
unfolding is_stronger
stronger it other same below =
    let less : int_lt other.row.konst it.row.konst ≡ true = grind (arith, ints) in
    let equal : pointwise int_eq other.row.coefs it.row.coefs ≡ true = (signed_items other.row.coefs it.row.coefs).1 same in
    rw (less, equal) refl

not_true : (b : Bool) → not b ≡ true → b ≡ true → ⊥
not_true true p q = absurd (cc)
not_true false p q = absurd (cc)

-- of two rows with the same coefficients at most one stays
apart : (rows : List Numbered) (i j : ℕ) → i < j → j < length rows → stays rows i ≡ true → stays rows j ≡ true → (row_at rows i).row.coefs ≢ (row_at rows j).row.coefs
unfolding stays
apart rows i j before inside p q same =
    let none : Numbered = record { row = record { coefs = []; konst = pos 0 }; number = 0 } in
    let first = row_at rows i in
    let second = row_at rows j in
    let later = right_of_and (not (list_any (is_at_least_as_strong first) (take i rows))) (not (list_any (is_stronger first) (drop (i + 1) rows)))
    (right_of_and (not (is_constant first)) (not (list_any (is_at_least_as_strong first) (take i rows)) && not (list_any (is_stronger first) (drop (i + 1) rows))) p) in
    let earlier = left_of_and (not (list_any (is_at_least_as_strong second) (take j rows))) (not (list_any (is_stronger second) (drop (j + 1) rows)))
    (right_of_and (not (is_constant second)) (not (list_any (is_at_least_as_strong second) (take j rows)) && not (list_any (is_stronger second) (drop (j + 1) rows))) q) in
    let k = j - (i + 1) in
    let place : (i + 1) + k ≡ j = omega (arith, before) in
    let there : k < length (drop (i + 1) rows) = omega (arith, before, inside, length-drop (i + 1) rows) in
    let at_later : get_or (drop (i + 1) rows) k none ≡ second = get_or-drop (i + 1) rows k none ∙ ap (λ n. get_or rows n none) place in
    let count : length (take j rows) ≡ j = length-take-le j rows (omega (arith, inside)) in
    let here : i < length (take j rows) = omega (arith, count, before) in
    let at_earlier : get_or (take j rows) i none ≡ first = get_or-take j rows i none before in
    by_lt_z second.row.konst first.row.konst
    (λ below. not_true (list_any (is_stronger first) (drop (i + 1) rows)) later
    (list_any_at (is_stronger first) (drop (i + 1) rows) k none there (ap (is_stronger first) at_later ∙ stronger first second (sym same) below)))
    (λ at_most. not_true (list_any (is_at_least_as_strong second) (take j rows)) earlier
    (list_any_at (is_at_least_as_strong second) (take j rows) i none here (ap (is_at_least_as_strong second) at_earlier ∙ as_strong second first same at_most)))

-- what is picked from a list by flags, and what pairs of it have
All-picked_from : {X : Type 0} (P : X → Type 0) (bs : List Bool) (xs : List X) → ((k : ℕ) (d : X) → k < length xs → get_or bs k false ≡ true → P (get_or xs k d))
    → All P (items_where_true bs xs)
All-picked_from P [] xs each = All-nil P
All-picked_from P (b ∷ bs) [] each = All-nil P
All-picked_from P (true ∷ bs) (x ∷ xs) each =
    All-cons P x (items_where_true bs xs) (each 0 x (omega arith) refl) (All-picked_from P bs xs (λ k d here set. each (suc k) d (omega (arith, here)) set))
All-picked_from P (false ∷ bs) (x ∷ xs) each = All-picked_from P bs xs (λ k d here set. each (suc k) d (omega (arith, here)) set)

pairs_picked : {X : Type 0} (R : X → X → Type 0) (bs : List Bool) (xs : List X)
    → ((i j : ℕ) (d : X) → i < j → j < length xs → get_or bs i false ≡ true → get_or bs j false ≡ true → R (get_or xs i d) (get_or xs j d)) → AllPairs R (items_where_true bs xs)
pairs_picked R [] xs each = AllPairs-nil R
pairs_picked R (b ∷ bs) [] each = AllPairs-nil R
pairs_picked R (true ∷ bs) (x ∷ xs) each =
    AllPairs-cons R x (items_where_true bs xs)
    (All-picked_from (R x) bs xs (λ k d here set. each 0 (suc k) d (omega arith) (omega (arith, here)) refl set))
    (pairs_picked R bs xs (λ i j d before here p q. each (suc i) (suc j) d (omega (arith, before)) (omega (arith, here)) p q))
pairs_picked R (false ∷ bs) (x ∷ xs) each = pairs_picked R bs xs (λ i j d before here p q. each (suc i) (suc j) d (omega (arith, before)) (omega (arith, here)) p q)

no_twins : (rows : List Numbered) → AllPairs (λ it other. it.row.coefs ≢ other.row.coefs) (strongest rows)
unfolding strongest
no_twins rows =
    let none : Numbered = record { row = record { coefs = []; konst = pos 0 }; number = 0 } in
    pairs_picked (λ it other. it.row.coefs ≢ other.row.coefs) (map (stays rows) (range_with_len 0 (length rows))) rows
    (λ i j d before inside p q.
    let first : i < length rows = omega (arith, before, inside) in
    let flag_i : get_or (map (stays rows) (range_with_len 0 (length rows))) i false ≡ stays rows i = get_or-map-range_with_len (stays rows) 0 (length rows) i i false first (omega arith) in
    let flag_j : get_or (map (stays rows) (range_with_len 0 (length rows))) j false ≡ stays rows j = get_or-map-range_with_len (stays rows) 0 (length rows) j j false inside (omega arith) in
    let differ = apart rows i j before inside (sym flag_i ∙ p) (sym flag_j ∙ q) in
    λ same. differ (ap (λ (it : Numbered). it.row.coefs) (get_or_default rows i none d first) ∙ same ∙ ap (λ (it : Numbered). it.row.coefs) (get_or_default rows j d none inside)))

-- rows that are handed out have the coefficients of those that are left
coefs_handed : (left : List WideRow) (rows : List Numbered) → map affine_of left ≡ map (λ it. it.row) rows → (k : ℕ) (d : WideRow) → k < length left
    → (get_or left k d).coefs ≡ (get_or rows k (record { row = affine_of d; number = 0 })).row.coefs
coefs_handed left rows same k d here =
    let other : Numbered = record { row = affine_of d; number = 0 } in
    let row : Numbered → Affine = λ it. it.row in
    let count : length left ≡ length rows = sym (length-map left affine_of) ∙ ap length same ∙ length-map rows row in
    let there : k < length rows = omega (arith, count, here) in
    ap (λ (a : Affine). a.coefs)
    (sym (get_or-map affine_of left k d (affine_of d) here) ∙ ap (λ (xs : List Affine). get_or xs k (affine_of d)) same ∙ get_or-map row rows k other (affine_of d) there)

pub tidy-has_no_twins : (given : List Numbered) (result : Result Left FindFault) → TidyAnswers given result → IfOk result HasNoTwins
tidy-has_no_twins given (Ok Contradiction) h = tt
tidy-has_no_twins given (Ok (Rows left)) h = λ i j d before inside.
    let rows = tidied (length given) given in
    let row : Numbered → Affine = λ it. it.row in
    let other : Numbered = record { row = affine_of d; number = 0 } in
    let count : length left ≡ length rows = sym (length-map left affine_of) ∙ ap length h.1.1 ∙ length-map rows row in
    let differ = no_twins (rounded_rows (length given) given) i j other before (omega (arith, count, inside)) in
    λ same. differ (sym (coefs_handed left rows h.1.1 i d (omega (arith, before, inside))) ∙ same ∙ coefs_handed left rows h.1.1 j d inside)
tidy-has_no_twins given (Err fault) h = tt

-- a whole point is a rational one over the denominator 1
whole : List ℤ → RatPoint
whole z = record { nums = z; den = pos 1 }

meets_whole : (z : List ℤ) (row : Affine) → IsAtLeastZero z row → Meets (whole z) row
unfolding whole
meets_whole z row holds = omega (arith, ints, holds)

holds_whole : (z : List ℤ) (row : Affine) → Meets (whole z) row → IsAtLeastZero z row
unfolding whole
holds_whole z row meets = omega (arith, ints, meets)

from_numbered : (Q : Affine → Type 0) (next : ℕ) (rows : List Affine) → All (λ it. Q it.row) (numbered_from next rows) → All Q rows
unfolding numbered_from
from_numbered Q next [] all = All-nil Q
from_numbered Q next (row ∷ rows) all =
    let P : Numbered → Type 0 = λ it. Q it.row in
    let first : Numbered = record { row = row; number = next } in
    All-cons Q row rows (All-head P first (numbered_from (next + 1) rows) all) (from_numbered Q (next + 1) rows (All-tail P first (numbered_from (next + 1) rows) all))

pub tidy-back : (z : List ℤ) (rows : List Affine) (result : Result Left FindFault) → TidyAnswers (given_rows rows) result
    → IfOk result (λ left. HoldsIn z left → All (IsAtLeastZero z) rows)
unfolding whole
tidy-back z rows (Ok Contradiction) h = λ none. absurd none
tidy-back z rows (Ok (Rows left)) h = λ all.
    let given : List Numbered = given_rows rows in
    let point = whole z in
    let one : pos 0 <ℤ point.den = omega (arith, ints) in
    let Q : Affine → Type 0 = IsAtLeastZero z in
    let kept : All (λ it. Q it.row) (tidied (length given) given) = (All-map_same Q (λ it. Q it.row) (λ it. it.row) (tidied (length given) given) (λ it. (λ q. q, λ q. q))).0 (subst (λ (xs : List Affine). All Q xs) h.1.1 all) in
    let met = All-weaker (λ it. Q it.row) (λ it. Meets point it.row) (λ it holds. meets_whole z it.row holds) (tidied (length given) given) kept in
    let untidied = meets_untidied point (rounded_rows (length given) given) one h.1.0 met in
    let unrounded = meets_all point given one (meets_all_rounded point (length given) given untidied) in
    from_numbered Q 0 rows (All-weaker (λ it. Meets point it.row) (λ it. Q it.row) (λ it meets. holds_whole z it.row meets) given unrounded)
tidy-back z rows (Err fault) h = tt
