-- Rows over their pivots: quotients, multiples and what the loops over them build.
use Rattle.std.proofs.Common.{◌≡◌, ℕ, zero, suc, ◌+◌, ◌-◌, ◌*◌, ◌/◌, ◌<◌, ◌≤◌, ◌^◌, arith, refl, sym, subst, ap, ap₂, ◌∙◌, append_assoc, List, [], ◌∷◌, ◌++◌, length, take, drop, map, All, get_or, ℤ, pos, negsuc, unsigned_abs, ◌*ℤ◌, ◌<ℤ◌, add-one, Some, to_z, of_z, mul-le-mul_left, replicate}
use Rattle.std.proofs.lemmas.Int.{ints}
use Rattle.std.proofs.lemmas.Nat.Gcd.{le_of_dvd}
use Rattle.std.proofs.Math.Nat.{div-mul_cancel}
use Rattle.std.proofs.lemmas.List.Elements.{All-append, All-map, All-same, All-nil, All-cons, All-head, All-tail, All-weaker, All-replicate}
use Rattle.std.proofs.lemmas.List.{length-take-le, length-drop, length-map, length-append, take_all}
use lib.IntN.{neg_ℤ}
use Rattle.std.proofs.Math.Seq.{drop-cons}
use Rattle.std.specs.Int.{w128, int_div_euclid}
use Rattle.std.specs.List.{slice_get}
use Rattle.az_lin.specs.Affine.{Affine, IsWide}
use Rattle.az_lin.specs.CommonDivisor.{gcd_of, gcd_of_all}
use Rattle.az_lin.specs.Inversion.{entry, HavePivots, columns_of, shared, common_multiple, denominator_from, over_pivot, numerators, Tableau, kernel_number, kernel_vector}
use Rattle.az_lin.proofs.DivisorLaws.{gcd_of-is_gcd}
use Rattle.az_lin.proofs.Integers.{floor_exact}
use Rattle.az_lin.proofs.Clearing.{gcd_of-positive, quotient_word, quotient_wide, entry_read, word_is}
use Rattle.az_lin.proofs.Mapped.{map-take-more}

-- items pushed behind others
pub prefix_more : {A B : Type 0} (f : A → B) (own : List A) (i : ℕ) (d : A) (got : B) (old done next : List B) → i < length own → done ≡ old ++ map f (take i own)
    → got ≡ f (get_or own i d) → next ≡ done ++ got ∷ [] → next ≡ old ++ map f (take (i + 1) own)
prefix_more f own i d got old done next here so_far same pushed =
    pushed ∙ ap (λ xs. xs ++ got ∷ []) so_far ∙ append_assoc old (map f (take i own)) (got ∷ [])
    ∙ ap (λ xs. old ++ xs) (map-take-more f own i d got (map f (take i own)) (map f (take i own) ++ got ∷ []) here refl same refl)

pub positive_factor : (q d p : ℤ) → d *ℤ q ≡ p → 0 < unsigned_abs p → 0 < unsigned_abs q
positive_factor (pos zero) d p is some = absurd (omega (arith, ints, is, some))
positive_factor (pos (suc q)) d p is some = omega (arith, ints)
positive_factor (negsuc q) d p is some = omega (arith, ints)

-- a quotient by what divides the number exactly isn't 0 unless the number is
pub quotient_nonzero : (p : ℤ) (n : ℕ) → 0 < unsigned_abs p → 0 < unsigned_abs (int_div_euclid p (pos (gcd_of (unsigned_abs p) n)))
quotient_nonzero p n some =
    let d = gcd_of (unsigned_abs p) n in
    let positive : 0 < d = gcd_of-positive (unsigned_abs p) n some in
    let exact : pos d *ℤ int_div_euclid p (pos d) ≡ p = floor_exact p (pos d) (omega (arith, ints, positive)) (gcd_of-is_gcd (unsigned_abs p) n).0 in
    positive_factor (int_div_euclid p (pos d)) (pos d) p exact some

-- the pivot in lowest terms, as a call computes it
pub lowest_is : (i from count : ℕ) (row : Affine) (z s q : ℤ) → slice_get row.coefs i ≡ Some z → IsWide z → s ≡ pos (shared (entry i row) (columns_of from count row)) → pos 0 <ℤ s → IsWide s
    → q ≡ int_div_euclid (to_z w128 (of_z w128 z)) (to_z w128 (of_z w128 s)) → q ≡ int_div_euclid (entry i row) (pos (shared (entry i row) (columns_of from count row)))
lowest_is i from count row z s q read wide same positive wide' is =
    quotient_word q z s (pos (shared (entry i row) (columns_of from count row))) positive wide wide' same is
    ∙ ap (λ (y : ℤ). int_div_euclid y (pos (shared (entry i row) (columns_of from count row)))) (sym (entry_read i row z read))

pub lowest_wide : (i from count : ℕ) (row : Affine) (z s : ℤ) → slice_get row.coefs i ≡ Some z → IsWide z → s ≡ pos (shared (entry i row) (columns_of from count row)) → pos 0 <ℤ s
    → IsWide (int_div_euclid (entry i row) (pos (shared (entry i row) (columns_of from count row))))
lowest_wide i from count row z s read wide same positive =
    quotient_wide (entry i row) (pos (shared (entry i row) (columns_of from count row))) (subst (λ (y : ℤ). pos 0 <ℤ y) same positive) (subst IsWide (sym (entry_read i row z read)) wide)

pub lowest_magnitude : (q e : ℤ) (u : ℕ) → q ≡ e → IsWide e → u ≡ unsigned_abs (to_z w128 (of_z w128 q)) → u ≡ unsigned_abs e
lowest_magnitude q e u same wide is = is ∙ ap (λ (y : ℤ). unsigned_abs (to_z w128 (of_z w128 y))) same ∙ ap unsigned_abs (word_is e wide)

-- one row less
pub one_less : (rows : List Affine) (i : ℕ) (row : Affine) → i < length rows → row ≡ get_or rows i row → drop i rows ≡ row ∷ drop (i + 1) rows
one_less rows i row here is = drop-cons rows i row here ∙ (rw add-one (ap (λ (r : Affine). r ∷ drop (suc i) rows) (sym is)))

pub pivots_here : (rows : List Affine) (i : ℕ) (row : Affine) → i < length rows → row ≡ get_or rows i row → HavePivots i (drop i rows)
    → (0 < unsigned_abs (entry i row)) × HavePivots (i + 1) (drop (i + 1) rows)
pivots_here rows i row here is h =
    let split : drop i rows ≡ row ∷ drop (i + 1) rows = one_less rows i row here is in
    let same : suc i ≡ i + 1 = omega arith in
    let both = subst (λ (xs : List Affine). HavePivots i xs) split h in
    (both.0, subst (λ k. HavePivots k (drop (i + 1) rows)) same both.1)

pub denominator_next : (from count known : ℕ) (rows : List Affine) (i u : ℕ) (row : Affine) → i < length rows → row ≡ get_or rows i row
    → u ≡ unsigned_abs (int_div_euclid (entry i row) (pos (shared (entry i row) (columns_of from count row))))
    → denominator_from from count known i (drop i rows) ≡ denominator_from from count (common_multiple known u) (i + 1) (drop (i + 1) rows)
denominator_next from count known rows i u row here is own =
    let same : suc i ≡ i + 1 = omega arith in
    let m = unsigned_abs (int_div_euclid (entry i row) (pos (shared (entry i row) (columns_of from count row)))) in
    ap (λ (xs : List Affine). denominator_from from count known i xs) (one_less rows i row here is)
    ∙ ap (λ k. denominator_from from count (common_multiple known m) k (drop (i + 1) rows)) same
    ∙ ap (λ k. denominator_from from count (common_multiple known k) (i + 1) (drop (i + 1) rows)) (sym own)

-- a multiple is at least as great, so what comes at the end is
pub multiple_low : (a m : ℕ) → 0 < a → 0 < m → a ≤ common_multiple a m
multiple_low a m p q =
    let g = gcd_of a m in
    let first : (a / g) * g ≡ a = div-mul_cancel g (gcd_of-is_gcd a m).0 in
    let low : g ≤ m = le_of_dvd q (gcd_of-is_gcd a m).1 in
    let more : (a / g) * g ≤ (a / g) * m = mul-le-mul_left (a / g) low in
    omega (arith, first, more)

pub denominator_low : (from count known j : ℕ) (rows : List Affine) → HavePivots j rows → 0 < known → known ≤ denominator_from from count known j rows
denominator_low from count known j [] h p = omega arith
denominator_low from count known j (row ∷ rows) h p =
    let m = unsigned_abs (int_div_euclid (entry j row) (pos (shared (entry j row) (columns_of from count row)))) in
    let some : 0 < m = quotient_nonzero (entry j row) (gcd_of_all (columns_of from count row)) h.0 in
    let first : known ≤ common_multiple known m = multiple_low known m p some in
    let rest : common_multiple known m ≤ denominator_from from count (common_multiple known m) (suc j) rows = denominator_low from count (common_multiple known m) (suc j) rows h.1 (omega (arith, first, p)) in
    omega (arith, first, rest)

products_are : (s d f e : ℤ) (cs own : List ℤ) → s ≡ d → f ≡ e → cs ≡ own → map (λ (c : ℤ). int_div_euclid c s *ℤ f) cs ≡ map (λ (c : ℤ). int_div_euclid c d *ℤ e) own
products_are s d f e cs own p q r =
    let M : ℤ → ℤ → List ℤ → List ℤ = λ x y zs. map (λ (c : ℤ). int_div_euclid c x *ℤ y) zs in
    ap (λ (x : ℤ). M x f cs) p ∙ ap (λ (y : ℤ). M d y cs) q ∙ ap (M d e) r

-- the numerators of one row more
pub numerators_next : (from count : ℕ) (den : ℤ) (rows : List Affine) (i : ℕ) (row : Affine) (s q f : ℤ) (cs made more whole : List ℤ) → i < length rows → row ≡ get_or rows i row
    → cs ≡ columns_of from count row → s ≡ pos (shared (entry i row) (columns_of from count row)) → f ≡ int_div_euclid den (int_div_euclid (entry i row) (pos (shared (entry i row) (columns_of from count row))))
    → made ++ numerators from count den i (drop i rows) ≡ whole → more ≡ made ++ map (λ c. int_div_euclid c s *ℤ f) cs
    → more ++ numerators from count den (i + 1) (drop (i + 1) rows) ≡ whole
numerators_next from count den rows i row s q f cs made more whole here is part divisor factor before pushed =
    let D = shared (entry i row) (columns_of from count row) in
    let own = over_pivot den (entry i row) D (columns_of from count row) in
    let rest = numerators from count den (i + 1) (drop (i + 1) rows) in
    let same : suc i ≡ i + 1 = omega arith in
    let split : numerators from count den i (drop i rows) ≡ own ++ rest =
    ap (numerators from count den i) (one_less rows i row here is) ∙ ap (λ k. own ++ numerators from count den k (drop (i + 1) rows)) same in
    let mine : map (λ (c : ℤ). int_div_euclid c s *ℤ f) cs ≡ own = products_are s (pos D) f (int_div_euclid den (int_div_euclid (entry i row) (pos D))) cs (columns_of from count row) divisor factor part in
    ap (λ (xs : List ℤ). xs ++ rest) (pushed ∙ ap (λ (xs : List ℤ). made ++ xs) mine) ∙ append_assoc made own rest ∙ ap (λ (xs : List ℤ). made ++ xs) (sym split) ∙ before

-- what is in the whole is in each part of it
pub All-front : {A : Type 0} (P : A → Type 0) (xs ys : List A) → All P (xs ++ ys) → All P xs
All-front P [] ys h = All-nil P
All-front P (x ∷ xs) ys h = All-cons P x xs (All-head P x (xs ++ ys) h) (All-front P xs ys (All-tail P x (xs ++ ys) h))

pub All-back : {A : Type 0} (P : A → Type 0) (xs ys : List A) → All P (xs ++ ys) → All P ys
All-back P [] ys h = h
All-back P (x ∷ xs) ys h = All-back P xs ys (All-tail P x (xs ++ ys) h)

pub All-of_map : (P : ℤ → Type 0) (f : ℤ → ℤ) (xs : List ℤ) → All P (map f xs) → All (λ x. P (f x)) xs
All-of_map P f [] h = All-nil (λ x. P (f x))
All-of_map P f (x ∷ xs) h = All-cons (λ y. P (f y)) x xs (All-head P (f x) (map f xs) h) (All-of_map P f xs (All-tail P (f x) (map f xs) h))

pub products_in_whole : (from count : ℕ) (den : ℤ) (rows : List Affine) (i : ℕ) (row : Affine) (s q f : ℤ) (cs made whole : List ℤ) → i < length rows → row ≡ get_or rows i row
    → cs ≡ columns_of from count row → s ≡ pos (shared (entry i row) (columns_of from count row)) → f ≡ int_div_euclid den (int_div_euclid (entry i row) (pos (shared (entry i row) (columns_of from count row))))
    → made ++ numerators from count den i (drop i rows) ≡ whole → All IsWide whole → All (λ c. IsWide (int_div_euclid c s *ℤ f)) cs
products_in_whole from count den rows i row s q f cs made whole here is part divisor factor before wide =
    let own = map (λ (c : ℤ). int_div_euclid c s *ℤ f) cs in
    let rest = numerators from count den (i + 1) (drop (i + 1) rows) in
    let all : (made ++ own) ++ rest ≡ whole = numerators_next from count den rows i row s q f cs made (made ++ own) whole here is part divisor factor before refl in
    All-of_map IsWide (λ (c : ℤ). int_div_euclid c s *ℤ f) cs (All-back IsWide made own (All-front IsWide (made ++ own) rest (subst (All IsWide) (sym all) wide)))

pub products_wide : (s f : ℤ) (cs made more : List ℤ) → All IsWide made → All (λ c. IsWide (int_div_euclid c s *ℤ f)) cs → more ≡ made ++ map (λ c. int_div_euclid c s *ℤ f) cs → All IsWide more
products_wide s f cs made more h each is =
    All-same IsWide more (made ++ map (λ (c : ℤ). int_div_euclid c s *ℤ f) cs) is
    (All-append IsWide made (map (λ (c : ℤ). int_div_euclid c s *ℤ f) cs) h (All-map IsWide (λ (c : ℤ). int_div_euclid c s *ℤ f) cs each))

pub factor_is : (den lowest q f : ℤ) → IsWide den → IsWide lowest → q ≡ lowest → f ≡ int_div_euclid (to_z w128 (of_z w128 den)) (to_z w128 (of_z w128 q)) → f ≡ int_div_euclid den lowest
factor_is den lowest q f wide wide' same is = is ∙ ap₂ int_div_euclid (word_is den wide) (ap (λ (z : ℤ). to_z w128 (of_z w128 z)) same ∙ word_is lowest wide')

-- the kernel vector, as it is pushed together
pub number_wide : (number : ℤ) (k : ℕ) → (k < 2 ^ 127) × (number ≡ pos k) → IsWide number
number_wide number k h = subst IsWide (sym h.1) h.0

pub kernel_numbers : (t : Tableau) (rows : List Affine) (number den : ℤ) → rows ≡ t.pivots → number ≡ pos (denominator_from (length rows) 1 1 0 rows) → den ≡ neg_ℤ number
    → numerators (length rows) 1 den 0 rows ≡ numerators (length t.pivots) 1 (neg_ℤ (pos (kernel_number t))) 0 t.pivots
kernel_numbers t rows number den same is negative =
    ap (λ (d : ℤ). numerators (length rows) 1 d 0 rows) (negative ∙ ap neg_ℤ is)
    ∙ ap (λ (rs : List Affine). numerators (length rs) 1 (neg_ℤ (pos (denominator_from (length rs) 1 1 0 rs))) 0 rs) same

length-columns_of : (from count : ℕ) (row : Affine) → from + count ≤ length row.coefs → length (columns_of from count row) ≡ count
length-columns_of from count row h = length-take-le count (drop from row.coefs) (omega (arith, h, length-drop from row.coefs))

pub length-numerators : (from count : ℕ) (den : ℤ) (j : ℕ) (rows : List Affine) → All (λ row. from + count ≤ length row.coefs) rows → length (numerators from count den j rows) ≡ length rows * count
length-numerators from count den j [] h = omega arith
length-numerators from count den j (row ∷ rows) h =
    let W : Affine → Type 0 = λ r. from + count ≤ length r.coefs in
    let cs = columns_of from count row in
    let own = over_pivot den (entry j row) (shared (entry j row) cs) cs in
    let here : length own ≡ count = length-map cs _ ∙ length-columns_of from count row (All-head W row rows h) in
    let rest : length (numerators from count den (suc j) rows) ≡ length rows * count = length-numerators from count den (suc j) rows (All-tail W row rows h) in
    let both : length (own ++ numerators from count den (suc j) rows) ≡ length own + length (numerators from count den (suc j) rows) = length-append own (numerators from count den (suc j) rows) in
    omega (arith, here, rest, both)

pub kernel_made : (n : ℕ) (t : Tableau) (vector pushed sized : List ℤ) (number : ℤ) → length t.pivots < n → All (λ row. length row.coefs ≡ n + n) t.pivots
    → vector ≡ numerators (length t.pivots) 1 (neg_ℤ (pos (kernel_number t))) 0 t.pivots → number ≡ pos (kernel_number t) → pushed ≡ vector ++ number ∷ []
    → sized ≡ take n pushed ++ replicate (n - length pushed) (pos 0) → sized ≡ kernel_vector n t
kernel_made n t vector pushed sized number short widths is number_is push size =
    let f = length t.pivots in
    let K = pos (kernel_number t) in
    let nums : List ℤ = numerators f 1 (neg_ℤ K) 0 t.pivots in
    let parts : All (λ row. f + 1 ≤ length row.coefs) t.pivots = All-weaker (λ row. length row.coefs ≡ n + n) (λ row. f + 1 ≤ length row.coefs) (λ row w. omega (arith, w, short)) t.pivots widths in
    let count : length nums ≡ f * 1 = length-numerators f 1 (neg_ℤ K) 0 t.pivots parts in
    let front : List ℤ = nums ++ K ∷ [] in
    let pushed_is : pushed ≡ front = push ∙ ap₂ (λ (xs : List ℤ) (x : ℤ). xs ++ x ∷ []) is number_is in
    let long : length front ≡ length nums + 1 = length-append nums (K ∷ []) in
    let Sized : List ℤ → List ℤ = λ xs. take n xs ++ replicate (n - length xs) (pos 0) in
    let left : n - length front ≡ n - suc f = omega (arith, long, count) in
    size ∙ ap Sized pushed_is
    ∙ ap (λ (xs : List ℤ). xs ++ replicate (n - length front) (pos 0)) (take_all n front (omega (arith, long, count, short)))
    ∙ ap (λ (m : ℕ). front ++ replicate m (pos 0)) left
    ∙ append_assoc nums (K ∷ []) (replicate (n - suc f) (pos 0))

pub kernel_wide : (n : ℕ) (t : Tableau) → All IsWide (numerators (length t.pivots) 1 (neg_ℤ (pos (kernel_number t))) 0 t.pivots) → IsWide (pos (kernel_number t)) → All IsWide (kernel_vector n t)
kernel_wide n t wide number =
    let zeros : List ℤ = replicate (n - suc (length t.pivots)) (pos 0) in
    All-append IsWide (numerators (length t.pivots) 1 (neg_ℤ (pos (kernel_number t))) 0 t.pivots) (pos (kernel_number t) ∷ zeros) wide
    (All-cons IsWide (pos (kernel_number t)) zeros number (All-replicate IsWide (n - suc (length t.pivots)) (pos 0) (omega arith)))
