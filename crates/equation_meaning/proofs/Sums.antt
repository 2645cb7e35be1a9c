-- Sums of numbers that belong to the items of a list, one after another.
use Rattle.std.proofs.Common.{◌≡◌, ℕ, zero, suc, ◌+◌, ◌<◌, List, [], ◌∷◌, ◌++◌, length, take, get_or, refl, arith, inl, inr, ⊎_elim}
use Rattle.std.specs.Prelude.{Contains, ◌⊎◌}
use Rattle.std.specs.List.{AllZip, sum}
use Rattle.std.proofs.lemmas.List.Elements.{Contains-append_cases}
use Rattle.loop_scan.proofs.Lists.{none_contained, first_or_rest}
use Rattle.std.proofs.lemmas.List.Sums.{sum_by-cons, sum_by-append}

pub sum-none : sum [] ≡ 0
sum-none = refl

sum-first : (n : ℕ) (ns : List ℕ) → sum (n ∷ ns) ≡ n + sum ns
sum-first n ns = sum_by-cons (λ (x : ℕ). x) n ns

pub sum-push : (ns : List ℕ) (n : ℕ) → sum (ns ++ n ∷ []) ≡ sum ns + n
sum-push ns n = let whole = sum_by-append (λ (x : ℕ). x) ns (n ∷ []) in omega (arith, whole)

module _ {A : Type 0} where
  pub Contains-push_cases : (xs : List A) (x y : A) → Contains (xs ++ x ∷ []) y → Contains xs y ⊎ (y ≡ x)
  Contains-push_cases xs x y c = ⊎_elim (λ l. inl l) (λ r. ⊎_elim (λ e. inr e) (λ n. absurd (none_contained y n)) (first_or_rest x [] y r)) (Contains-append_cases xs (x ∷ []) y c)

  module _ (P : A → ℕ → Type 0) (once : (a : A) (m n : ℕ) → P a m → P a n → m ≡ n) where
    -- each item has one number
    pub zipped-once : (points : List A) (ms ns : List ℕ) → AllZip P points ms → AllZip P points ns → ms ≡ ns
    zipped-once [] [] [] p q = refl
    zipped-once [] [] (n ∷ ns) p q = absurd q
    zipped-once [] (m ∷ ms) ns p q = absurd p
    zipped-once (a ∷ points) [] ns p q = absurd p
    zipped-once (a ∷ points) (m ∷ ms) [] p q = absurd q
    zipped-once (a ∷ points) (m ∷ ms) (n ∷ ns) p q =
        let first = once a m n p.0 q.0 in
        let rest = zipped-once points ms ns p.1 q.1 in
        λ t. first t ∷ rest t

    -- so the sum is above that of the first ones and anything that the next number is above
    pub sum-above :
        (points : List A) (i : ℕ) (d : A) (ms ns : List ℕ) (rest : ℕ) → i < length points → AllZip P (take i points) ms → AllZip P points ns →
        ((n : ℕ) → P (get_or points i d) n → rest < n) → sum ms + rest < sum ns
    sum-above [] i d ms ns rest h p q above = absurd (omega arith)
    sum-above (a ∷ points) i d ms [] rest h p q above = absurd q
    sum-above (a ∷ points) zero d [] (n ∷ ns) rest h p q above = let l = above n q.0 in let whole = sum-first n ns in let none = sum-none in omega (arith, l, whole, none)
    sum-above (a ∷ points) zero d (m ∷ ms) (n ∷ ns) rest h p q above = absurd p
    sum-above (a ∷ points) (suc i) d [] (n ∷ ns) rest h p q above = absurd p
    sum-above (a ∷ points) (suc i) d (m ∷ ms) (n ∷ ns) rest h p q above =
        let same = once a m n p.0 q.0 in
        let later = sum-above points i d ms ns rest (omega (arith, h)) p.1 q.1 above in
        let left = sum-first m ms in
        let right = sum-first n ns in
        omega (arith, same, later, left, right)

-- numbers that are all 0
pub zeros : {A : Type 0} (P : A → ℕ → Type 0) (points : List A) → ((a : A) → Contains points a → P a 0) → (ns : List ℕ) × AllZip P points ns × (sum ns ≡ 0)
zeros P [] h = ([], tt, refl)
zeros P (a ∷ points) h =
    let rest = zeros P points (λ b c. h b (suc c.0, omega (arith, c.1), c.2)) in
    (0 ∷ rest.0, (h a (0, omega arith, refl), rest.1), (let one = sum-first 0 rest.0 in omega (arith, one, rest.2)))
