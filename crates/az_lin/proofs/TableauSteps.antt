-- What a step does to a tableau, and that its size stays.
use Rattle.std.proofs.Common.{◌≡◌, ℕ, zero, suc, ◌+◌, ◌-◌, ◌<◌, ◌≤◌, arith, refl, sym, subst, ap, ◌∙◌, Bool, true, false, cond, Result, Ok, Err, IfOk, append_assoc, List, [], ◌∷◌, ◌++◌, length, take, drop, set, replicate, map, All, get_or, ℤ, pos, ◌↔◌, add-one}
use Rattle.std.proofs.lemmas.List.{set-get_or, length-map, length-append, take-append-drop, length-drop, set-append_right, take_all, take_rest}
use Rattle.std.proofs.Math.ListN.{drop_of_length-le}
use Rattle.std.proofs.Math.Seq.{drop-cons}
use Rattle.std.proofs.lemmas.List.Elements.{All-head, All-tail, All-append, All-take, All-drop, All-map, All-cons, All-nil, All-weaker, All-set, All-replicate}
use Rattle.std.specs.List.{remove}
use Rattle.az_lin.specs.Affine.{Affine, IsEntry, IsWide}
use Rattle.az_lin.specs.Combination.{scaled_sums}
use Rattle.az_lin.specs.Inversion.{entry, reaches, primitive, row_factor, pivot_factor, difference, cleared, ClearsWide, Tableau, place_of, step_from, step, StepsWideFrom, StepsWide, HasSize, beside, beside_identity}
use Rattle.az_lin.specs.declared.fault.LinFault.{LinFault}

-- a step with a pivot, and one without
at_place : (rest : List Affine) (place : ℕ) (d : Affine) → place < length rest → drop place rest ≡ get_or rest place d ∷ drop (suc place) rest
at_place rest place d here = drop-cons rest place d here

pub step_found : (t : Tableau) (place : ℕ) (pivot : Affine) → place ≡ place_of (length t.pivots) t.rest → place < length t.rest → pivot ≡ get_or t.rest place pivot
    → step t ≡ record { pivots = map (cleared (length t.pivots) pivot) t.pivots ++ pivot ∷ []; rest = map (cleared (length t.pivots) pivot) (remove t.rest place) }
step_found t place pivot is here same =
    let Made : ℕ → Tableau = λ k. step_from k t (drop k t.rest) in
    ap Made (sym is) ∙ ap (step_from place t) (at_place t.rest place pivot here ∙ ap (λ (row : Affine). row ∷ drop (suc place) t.rest) (sym same))

pub steps_wide_found : (t : Tableau) (place : ℕ) (pivot : Affine) → place ≡ place_of (length t.pivots) t.rest → place < length t.rest → pivot ≡ get_or t.rest place pivot
    → StepsWide t ↔ (All (ClearsWide (length t.pivots) pivot) t.pivots × All (ClearsWide (length t.pivots) pivot) (remove t.rest place))
steps_wide_found t place pivot is here same =
    let At : ℕ → Type 0 = λ k. StepsWideFrom k t (drop k t.rest) in
    let With : List Affine → Type 0 = λ rows. StepsWideFrom place t rows in
    let split : drop place t.rest ≡ pivot ∷ drop (suc place) t.rest = at_place t.rest place pivot here ∙ ap (λ (row : Affine). row ∷ drop (suc place) t.rest) (sym same) in
    (λ h. subst With split (subst At (sym is) h), λ h. subst At is (subst With (sym split) h))

pub step_stuck : (t : Tableau) → length t.rest ≤ place_of (length t.pivots) t.rest → step t ≡ t
step_stuck t past =
    let k = place_of (length t.pivots) t.rest in
    ap (step_from k t) (drop_of_length-le t.rest past)

pub steps_wide_stuck : (t : Tableau) → length t.rest ≤ place_of (length t.pivots) t.rest → StepsWide t
steps_wide_stuck t past =
    let k = place_of (length t.pivots) t.rest in
    let With : List Affine → Type 0 = λ rows. StepsWideFrom k t rows in
    subst With (sym (drop_of_length-le t.rest past)) tt

-- the widths stay
pub length-scaled_sums : (a : ℤ) (xs : List ℤ) (b : ℤ) (ys : List ℤ) → length xs ≡ length ys → length (scaled_sums a xs b ys) ≡ length xs
length-scaled_sums a [] b ys h = refl
length-scaled_sums a (x ∷ xs) b [] h = absurd (omega arith)
length-scaled_sums a (x ∷ xs) b (y ∷ ys) h = ap suc (length-scaled_sums a xs b ys (omega arith))

pub width_of_cleared : (j : ℕ) (pivot row : Affine) → length row.coefs ≡ length pivot.coefs → length (cleared j pivot row).coefs ≡ length row.coefs
width_of_cleared j pivot row same =
    let sum = difference j pivot row in
    let made : length (primitive sum).coefs ≡ length row.coefs =
    length-map sum.coefs _ ∙ length-scaled_sums (row_factor (entry j pivot) (entry j row)) row.coefs (pivot_factor (entry j pivot) (entry j row)) pivot.coefs same in
    elim (reaches j row) as (λ (b : Bool). length (cond b (primitive sum) row).coefs ≡ length row.coefs) [ true ↦ made | false ↦ refl ]

cleared_widths : (j w : ℕ) (pivot : Affine) (rows : List Affine) → length pivot.coefs ≡ w → All (λ row. length row.coefs ≡ w) rows → All (λ row. length row.coefs ≡ w) (map (cleared j pivot) rows)
cleared_widths j w pivot rows wide h =
    All-map (λ row. length row.coefs ≡ w) (cleared j pivot) rows
    (All-weaker (λ row. length row.coefs ≡ w) (λ row. length (cleared j pivot row).coefs ≡ w) (λ row same. width_of_cleared j pivot row (same ∙ sym wide) ∙ same) rows h)

size_from : (n place : ℕ) (t : Tableau) (rows : List Affine) → drop place t.rest ≡ rows → HasSize n t → HasSize n (step_from place t rows)
size_from n place t [] split h = h
size_from n place t (pivot ∷ after) split h =
    let j = length t.pivots in
    let W : Affine → Type 0 = λ row. length row.coefs ≡ n + n in
    let tail : All W (pivot ∷ after) = subst (All W) split (All-drop W place t.rest h.rest_widths) in
    let wide : length pivot.coefs ≡ n + n = All-head W pivot after tail in
    let others : All W (take place t.rest ++ after) = All-append W (take place t.rest) after (All-take W place t.rest h.rest_widths) (All-tail W pivot after tail) in
    let whole : take place t.rest ++ (pivot ∷ after) ≡ t.rest = ap (λ (rows : List Affine). take place t.rest ++ rows) (sym split) ∙ take-append-drop place t.rest in
    let rest_count : length (take place t.rest) + suc (length after) ≡ length t.rest = sym (length-append (take place t.rest) (pivot ∷ after)) ∙ ap length whole in
    let pivot_count : length (map (cleared j pivot) t.pivots ++ pivot ∷ []) ≡ length t.pivots + 1 = length-append (map (cleared j pivot) t.pivots) (pivot ∷ []) ∙ ap (λ k. k + 1) (length-map t.pivots (cleared j pivot)) in
    let new_count : length (map (cleared j pivot) (take place t.rest ++ after)) ≡ length (take place t.rest) + length after = length-map (take place t.rest ++ after) (cleared j pivot) ∙ length-append (take place t.rest) after in
    let before : length t.pivots + length t.rest ≡ n = h.count in
    record {
      pivot_widths = All-append W (map (cleared j pivot) t.pivots) (pivot ∷ []) (cleared_widths j (n + n) pivot t.pivots wide h.pivot_widths) (All-cons W pivot [] wide (All-nil W));
      rest_widths = cleared_widths j (n + n) pivot (take place t.rest ++ after) wide others;
      count = omega (arith, rest_count, pivot_count, new_count, before);
    }

pub HasSize-step : (n : ℕ) (t : Tableau) → HasSize n t → HasSize n (step t)
HasSize-step n t h = size_from n (place_of (length t.pivots) t.rest) t (drop (place_of (length t.pivots) t.rest) t.rest) refl h

pub HasSize-own : (n : ℕ) (t : Tableau) → HasSize n t → HasSize (length t.pivots + length t.rest) t
HasSize-own n t h = subst (λ m. HasSize m t) (sym h.count) h

-- each row that is not yet used has an entry in the next column
pub next_column : (n : ℕ) (t : Tableau) → HasSize n t → All (λ row. length t.pivots < length row.coefs) t.rest
next_column n t h = λ k d here.
    let wide : length (get_or t.rest k d).coefs ≡ n + n = h.rest_widths k d here in
    let count : length t.pivots + length t.rest ≡ n = h.count in
    omega (arith, wide, count, here)

-- rows rewritten one after the other
pub get_or_any : {A : Type 0} (xs : List A) (i : ℕ) (d e : A) → i < length xs → get_or xs i d ≡ get_or xs i e
get_or_any [] i d e h = absurd (omega arith)
get_or_any (x ∷ xs) zero d e h = refl
get_or_any (x ∷ xs) (suc i) d e h = get_or_any xs i d e (omega arith)

row_left : (f : Affine → Affine) (own : List Affine) (i : ℕ) (d : Affine) → i < length own → get_or (map f (take i own) ++ drop i own) i d ≡ get_or own i d
row_left f [] i d h = absurd (omega arith)
row_left f (x ∷ own) zero d h = refl
row_left f (x ∷ own) (suc i) d h = row_left f own i d (omega arith)

pub still_own : (f : Affine → Affine) (own now : List Affine) (i : ℕ) (d : Affine) → i < length own → now ≡ map f (take i own) ++ drop i own → get_or now i d ≡ get_or own i d
still_own f own now i d h done = ap (λ (rows : List Affine). get_or rows i d) done ∙ row_left f own i d h

set_next : (f : Affine → Affine) (own : List Affine) (i : ℕ) (z d : Affine) → i < length own → z ≡ f (get_or own i d)
    → set (map f (take i own) ++ drop i own) i z ≡ map f (take (i + 1) own) ++ drop (i + 1) own
set_next f [] i z d h is = absurd (omega arith)
set_next f (x ∷ own) zero z d h is = ap (λ (y : Affine). y ∷ own) is
set_next f (x ∷ own) (suc i) z d h is =
    let same : suc i + 1 ≡ suc (i + 1) = omega arith in
    rw same (ap (λ (rows : List Affine). f x ∷ rows) (set_next f own i z d (omega arith) is))

pub done_next : (f : Affine → Affine) (own now : List Affine) (i : ℕ) (z d : Affine) → i < length own → now ≡ map f (take i own) ++ drop i own → z ≡ f (get_or now i d)
    → set now i z ≡ map f (take (i + 1) own) ++ drop (i + 1) own
done_next f own now i z d h done is =
    ap (λ (rows : List Affine). set rows i z) done ∙ set_next f own i z d h (is ∙ ap f (still_own f own now i d h done))

pub done_unchanged : (f : Affine → Affine) (own now : List Affine) (i : ℕ) (d : Affine) → i < length own → now ≡ map f (take i own) ++ drop i own → get_or now i d ≡ f (get_or now i d)
    → now ≡ map f (take (i + 1) own) ++ drop (i + 1) own
done_unchanged f own now i d h done is = sym (set-get_or now i d) ∙ done_next f own now i (get_or now i d) d h done is

-- the start of a tableau
pub beside_items : (n k : ℕ) (own extended sized made : List ℤ) → length own ≡ n → k < n → extended ≡ own
    → sized ≡ take (n + n) extended ++ replicate ((n + n) - length extended) (pos 0) → made ≡ set sized (n + k) (pos 1)
    → made ≡ own ++ set (replicate n (pos 0)) k (pos 1)
beside_items n k own extended sized made wide below same is put =
    let whole : take (n + n) own ≡ own = take_all (n + n) own (omega (arith, wide)) in
    let left : (n + n) - length own ≡ n = omega (arith, wide) in
    let zeros : List ℤ = replicate n (pos 0) in
    let place : (n + k) - n ≡ k = omega arith in
    let Sized : List ℤ → List ℤ = λ xs. take (n + n) xs ++ replicate ((n + n) - length xs) (pos 0) in
    let sized_is : sized ≡ own ++ zeros = is ∙ ap Sized same ∙ ap (λ (xs : List ℤ). xs ++ replicate ((n + n) - length own) (pos 0)) whole ∙ ap (λ (m : ℕ). own ++ replicate m (pos 0)) left in
    put ∙ ap (λ (xs : List ℤ). set xs (n + k) (pos 1)) sized_is
    ∙ set-append_right own zeros n (n + k) (pos 1) wide (omega arith)
    ∙ ap (λ (m : ℕ). own ++ set zeros m (pos 1)) place

pub wide_beside : (params n k : ℕ) (row : Affine) → All IsEntry row.coefs → All IsWide (beside params n k row).coefs
wide_beside params n k row h =
    All-append IsWide (drop params row.coefs) (set (replicate n (pos 0)) k (pos 1))
    (All-weaker IsEntry IsWide (λ z small. omega (arith, small)) (drop params row.coefs) (All-drop IsEntry params row.coefs h))
    (All-set IsWide (replicate n (pos 0)) k (pos 1) (omega arith) (All-replicate IsWide n (pos 0) (omega arith)))

pub beside_made : (params n k : ℕ) (row : Affine) (now start extended sized made : List ℤ) → now ≡ row.coefs → length row.coefs ≡ params + n → k < n → start ≡ []
    → extended ≡ start ++ take (length now - params) (drop params now) → sized ≡ take (n + n) extended ++ replicate ((n + n) - length extended) (pos 0)
    → made ≡ set sized (n + k) (pos 1) → made ≡ (beside params n k row).coefs
beside_made params n k row now start extended sized made own wide below empty is filled put =
    let whole : extended ≡ drop params row.coefs =
    is ∙ ap (λ (xs : List ℤ). xs ++ take (length now - params) (drop params now)) empty ∙ take_rest now params ∙ ap (drop params) own in
    let count : length (drop params row.coefs) ≡ n = omega (arith, length-drop params row.coefs, wide) in
    beside_items n k (drop params row.coefs) extended sized made count below whole filled put

pub ok_weaker : {A : Type 0} (r : Result A LinFault) (P Q : A → Type 0) → ((a : A) → P a → Q a) → IfOk r P → IfOk r Q
ok_weaker (Ok a) P Q f h = f a h
ok_weaker (Err e) P Q f h = tt

pub identity_next : (params n i : ℕ) (rows made more whole : List Affine) (row : Affine) → i < length rows → made ++ beside_identity params n i (drop i rows) ≡ whole
    → more ≡ made ++ row ∷ [] → row ≡ beside params n i (get_or rows i row) → more ++ beside_identity params n (i + 1) (drop (i + 1) rows) ≡ whole
identity_next params n i rows made more whole row here before pushed is =
    let rest : List Affine = beside_identity params n (i + 1) (drop (i + 1) rows) in
    let next : beside_identity params n i (drop i rows) ≡ row ∷ rest =
    ap (beside_identity params n i) (drop-cons rows i row here) ∙ (rw add-one (ap (λ (r : Affine). r ∷ beside_identity params n (suc i) (drop (suc i) rows)) (sym is))) in
    ap (λ (xs : List Affine). xs ++ rest) pushed ∙ append_assoc made (row ∷ []) rest ∙ ap (λ (xs : List Affine). made ++ xs) (sym next) ∙ before
