-- Sums of scaled numbers and lists, built column by column.
use Rattle.std.proofs.Common.{◌≡◌, ℕ, suc, ◌+◌, ◌<◌, sym, ap, subst, ◌∙◌, arith, Option, Some, None, SomeIff, ℤ, pos, ◌+ℤ◌, ◌*ℤ◌, List, [], ◌∷◌, ◌++◌, length, get_or, set, map, zero, take, drop, add-one, append_assoc, append-nil, All, ◌<ℤ◌, lt_of_le_of_lt, negsuc, div-one, refl, ap₂}
use Rattle.std.proofs.lemmas.List.Elements.{All-nil, All-cons, All-same, All-map, All-weaker}
use Rattle.std.proofs.lemmas.List.{take_all, length-map}
use Rattle.std.proofs.Math.ListN.{drop_of_length-le}
use Rattle.std.specs.Int.{int_div_euclid}
use Rattle.std.proofs.Math.Seq.{drop-cons}
use Rattle.std.specs.List.{AllZip, refill}
use Rattle.az_lin.proofs.Integers.{unsigned_abs-floor}
use Rattle.az_lin.specs.Affine.{Affine, IsWide}
use Rattle.az_lin.specs.Combination.{scaled_sum, scaled_sums, IsWideSum, HasWideEntries, quotient}

-- the last of three tests
pub SomeIff-wide_sum : (a x b y left right : ℤ) (got : Option ℤ) → IsWide (a *ℤ x) × (left ≡ a *ℤ x) → IsWide (b *ℤ y) × (right ≡ b *ℤ y)
    → SomeIff got (IsWide (left +ℤ right)) (left +ℤ right) → SomeIff got (IsWideSum a x b y) (scaled_sum a x b y)
SomeIff-wide_sum a x b y left right None p q h = λ w. h (rw (p.1, q.1) w.total)
SomeIff-wide_sum a x b y left right (Some got) p q h =
    let same : left +ℤ right ≡ scaled_sum a x b y = rw (p.1, q.1) in
    let Q : ℤ → Type 0 = IsWide in
    (record { left = p.0; right = q.0; total = subst Q same h.0 }, h.1 ∙ same)

-- one column less to add
pub scaled_sums-drop : (a : ℤ) (xs : List ℤ) (b : ℤ) (ys : List ℤ) (i : ℕ) → i < length xs → i < length ys
    → scaled_sums a (drop i xs) b (drop i ys) ≡ scaled_sum a (get_or xs i (pos 0)) b (get_or ys i (pos 0)) ∷ scaled_sums a (drop (i + 1) xs) b (drop (i + 1) ys)
scaled_sums-drop a xs b ys i p q = rw (add-one, drop-cons xs i (pos 0) p, drop-cons ys i (pos 0) q)

pub AllZip-drop : (R : ℤ → ℤ → Type 0) (xs ys : List ℤ) (i : ℕ) → i < length xs → i < length ys
    → R (get_or xs i (pos 0)) (get_or ys i (pos 0)) → AllZip R (drop (i + 1) xs) (drop (i + 1) ys) → AllZip R (drop i xs) (drop i ys)
AllZip-drop R xs ys i p q here rest =
    let same : i + 1 ≡ suc i = omega arith in
    let P : ℕ → Type 0 = λ n. AllZip R (drop n xs) (drop n ys) in
    rw (drop-cons xs i (pos 0) p, drop-cons ys i (pos 0) q) (here, subst P same rest)

pub scaled_sums-more : (a : ℤ) (xs : List ℤ) (b : ℤ) (ys : List ℤ) (i : ℕ) (front more whole : List ℤ) (sum : ℤ) → i < length xs → i < length ys
    → front ++ scaled_sums a (drop i xs) b (drop i ys) ≡ whole → more ≡ front ++ sum ∷ [] → sum ≡ scaled_sum a (get_or xs i (pos 0)) b (get_or ys i (pos 0))
    → more ++ scaled_sums a (drop (i + 1) xs) b (drop (i + 1) ys) ≡ whole
scaled_sums-more a xs b ys i front more whole sum p q before pushed is =
    let rest = scaled_sums a (drop (i + 1) xs) b (drop (i + 1) ys) in
    ap (λ (zs : List ℤ). zs ++ rest) pushed ∙ append_assoc front (sum ∷ []) rest ∙ ap (λ (z : ℤ). front ++ (z ∷ rest)) is
    ∙ sym (ap (λ (zs : List ℤ). front ++ zs) (scaled_sums-drop a xs b ys i p q)) ∙ before

-- sums in range are wide
pub wide_scaled_sums : (a : ℤ) (xs : List ℤ) (b : ℤ) (ys : List ℤ) → AllZip (λ x y. IsWideSum a x b y) xs ys → All IsWide (scaled_sums a xs b ys)
wide_scaled_sums a [] b [] h = All-nil IsWide
wide_scaled_sums a [] b (y ∷ ys) h = All-nil IsWide
wide_scaled_sums a (x ∷ xs) b [] h = All-nil IsWide
wide_scaled_sums a (x ∷ xs) b (y ∷ ys) h = All-cons IsWide (scaled_sum a x b y) (scaled_sums a xs b ys) h.0.total (wide_scaled_sums a xs b ys h.1)

pub wide_row_of_sums : (a : ℤ) (xs : List ℤ) (b : ℤ) (ys : List ℤ) (x y : ℤ) (coefs : List ℤ) (konst : ℤ)
    → AllZip (λ x y. IsWideSum a x b y) xs ys × (coefs ≡ scaled_sums a xs b ys) → IsWideSum a x b y × (konst ≡ scaled_sum a x b y)
    → HasWideEntries (record { coefs = coefs; konst = konst })
wide_row_of_sums a xs b ys x y coefs konst p q = record {
  coefficients = All-same IsWide coefs (scaled_sums a xs b ys) p.1 (wide_scaled_sums a xs b ys p.0);
  constant = subst IsWide (sym q.1) q.0.total;
}

-- an entry rewritten in place, where those before it have been
pub map-more_set : (f : ℤ → ℤ) (xs : List ℤ) (i : ℕ) (z : ℤ) → i < length xs → z ≡ f (get_or (map f (take i xs) ++ drop i xs) i (pos 0))
    → set (map f (take i xs) ++ drop i xs) i z ≡ map f (take (i + 1) xs) ++ drop (i + 1) xs
map-more_set f [] i z h e = absurd (omega arith)
map-more_set f (x ∷ xs) zero z h e = ap (λ (y : ℤ). y ∷ xs) e
map-more_set f (x ∷ xs) (suc i) z h e =
    let same : suc i + 1 ≡ suc (i + 1) = omega arith in
    rw same (ap (λ (ys : List ℤ). f x ∷ ys) (map-more_set f xs i z (omega arith) e))

pub map-more : (f : ℤ → ℤ) (xs now : List ℤ) (i : ℕ) (z : ℤ) → i < length xs → now ≡ map f (take i xs) ++ drop i xs
    → z ≡ f (get_or now i (pos 0)) → set now i z ≡ map f (take (i + 1) xs) ++ drop (i + 1) xs
map-more f xs now i z here before e =
    ap (λ (ys : List ℤ). set ys i z) before ∙ map-more_set f xs i z here (e ∙ ap (λ (ys : List ℤ). f (get_or ys i (pos 0))) before)

-- a list that is written back whole
pub refill-map : (f : ℤ → ℤ) (xs ys ws : List ℤ) → ys ≡ xs → ws ≡ map f ys → refill (length xs) xs ws ≡ map f xs
refill-map f xs ys ws same is =
    let whole : ws ≡ map f xs = is ∙ ap (map f) same in
    let as_long : length (map f xs) ≡ length xs = length-map xs f in
    let none : drop (length xs) xs ≡ [] = drop_of_length-le xs (omega arith) in
    let all : take (length xs) (map f xs) ≡ map f xs = take_all (length xs) (map f xs) (omega arith) in
    rw (whole, as_long, none, append-nil) all

pub HasWideEntries-quotient : (coefs : List ℤ) (konst divisor : ℤ) → pos 0 <ℤ divisor → HasWideEntries (record { coefs = coefs; konst = konst })
    → HasWideEntries (quotient (record { coefs = coefs; konst = konst }) divisor)
HasWideEntries-quotient coefs konst divisor positive wide =
    let f = λ (coef : ℤ). int_div_euclid coef divisor in
    let narrower : (z : ℤ) → IsWide z → IsWide (int_div_euclid z divisor) = λ z h. lt_of_le_of_lt (unsigned_abs-floor z divisor positive) h in
    record {
      coefficients = All-map IsWide f coefs (All-weaker IsWide (λ z. IsWide (int_div_euclid z divisor)) narrower coefs wide.coefficients);
      constant = narrower konst wide.constant;
    }

pub wide_after_division : (items ys ws : List ℤ) (konst number d : ℤ) → pos 0 <ℤ d → HasWideEntries (record { coefs = items; konst = konst })
    → ys ≡ items → ws ≡ map (λ coef. int_div_euclid coef d) ys → number ≡ int_div_euclid konst d
    → HasWideEntries (record { coefs = refill (length items) items ws; konst = number })
wide_after_division items ys ws konst number d positive wide same is floor =
    rw (refill-map (λ coef. int_div_euclid coef d) items ys ws same is, floor) (HasWideEntries-quotient items konst d positive wide)

floor_by_one : (z : ℤ) → int_div_euclid z (pos 1) ≡ z
floor_by_one (pos a) = ap pos (div-one a)
floor_by_one (negsuc a) = ap negsuc (div-one a)

floors_by_one : (zs : List ℤ) → map (λ coef. int_div_euclid coef (pos 1)) zs ≡ zs
floors_by_one [] = refl
floors_by_one (z ∷ zs) = cc (floor_by_one z, floors_by_one zs)

pub quotient_by_one : (row : Affine) (divisor : ℤ) → divisor ≡ pos 1 → row ≡ quotient row divisor
quotient_by_one row divisor one =
    let P : ℤ → Type 0 = λ d. row ≡ quotient row d in
    subst P (sym one) (sym (ap₂ (λ (coefs : List ℤ) (konst : ℤ). let made : Affine = record { coefs = coefs; konst = konst } in made) (floors_by_one row.coefs) (floor_by_one row.konst)))
