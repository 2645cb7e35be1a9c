-- Products that are added one by one, and the total, which is in range.
use Rattle.std.proofs.Common.{◌≡◌, ℕ, suc, ◌+◌, ◌<◌, ◌∙◌, sym, subst, subst₂, ap, arith, List, [], ◌∷◌, length, Option, Some, None, SomeIff, IfSome, get_or, drop, ℤ, pos, ◌+ℤ◌, ◌*ℤ◌}
use Rattle.std.proofs.Math.Seq.{drop-cons}
use Rattle.az_lin.specs.Affine.{IsWide, dot}
use Rattle.az_lin.specs.RationalPoint.{AddsWide}
use Rattle.az_lin.proofs.Dot.{dot-step}
use Rattle.az_lin.proofs.Integers.{add_assoc_int}
use Rattle.std.proofs.lemmas.Int.{ints}

add_zero : (z : ℤ) → z ≡ z +ℤ pos 0
add_zero z = omega (arith, ints)

pub AddsWide-first : (sum : ℤ) (xs ys : List ℤ) (i : ℕ) → i < length xs → i < length ys → AddsWide sum (drop i xs) (drop i ys)
    → IsWide (get_or xs i (pos 0) *ℤ get_or ys i (pos 0)) × IsWide (sum +ℤ (get_or xs i (pos 0) *ℤ get_or ys i (pos 0)))
    × AddsWide (sum +ℤ (get_or xs i (pos 0) *ℤ get_or ys i (pos 0))) (drop (i + 1) xs) (drop (i + 1) ys)
AddsWide-first sum xs ys i p q h =
    let P : List ℤ → List ℤ → Type 0 = λ us vs. AddsWide sum us vs in
    let opened = subst₂ P (drop-cons xs i (pos 0) p) (drop-cons ys i (pos 0) q) h in
    let next : suc i ≡ i + 1 = omega arith in
    let Q : ℕ → Type 0 = λ n. AddsWide (sum +ℤ (get_or xs i (pos 0) *ℤ get_or ys i (pos 0))) (drop n xs) (drop n ys) in
    (opened.0, opened.1, subst Q next opened.2)

pub AddsWide-from_first : (sum : ℤ) (xs ys : List ℤ) (i : ℕ) → i < length xs → i < length ys → IsWide (get_or xs i (pos 0) *ℤ get_or ys i (pos 0))
    → IsWide (sum +ℤ (get_or xs i (pos 0) *ℤ get_or ys i (pos 0))) → AddsWide (sum +ℤ (get_or xs i (pos 0) *ℤ get_or ys i (pos 0))) (drop (i + 1) xs) (drop (i + 1) ys)
    → AddsWide sum (drop i xs) (drop i ys)
AddsWide-from_first sum xs ys i p q product total rest =
    let P : List ℤ → List ℤ → Type 0 = λ us vs. AddsWide sum us vs in
    let next : i + 1 ≡ suc i = omega arith in
    let Q : ℕ → Type 0 = λ n. AddsWide (sum +ℤ (get_or xs i (pos 0) *ℤ get_or ys i (pos 0))) (drop n xs) (drop n ys) in
    subst₂ P (sym (drop-cons xs i (pos 0) p)) (sym (drop-cons ys i (pos 0) q)) (product, total, subst Q next rest)

-- the sum so far, against the whole
pub record SoFar (start : ℤ) (xs ys : List ℤ) (sum : ℤ) (i : ℕ) : Type 0 where
  pub whole : sum +ℤ dot (drop i xs) (drop i ys) ≡ start +ℤ dot xs ys
  pub wide : AddsWide sum (drop i xs) (drop i ys) → AddsWide start xs ys
  pub back : AddsWide start xs ys → AddsWide sum (drop i xs) (drop i ys)

pub SoFar-more : (start : ℤ) (xs ys : List ℤ) (sum : ℤ) (i : ℕ) (product next : ℤ) → i < length xs → i < length ys → SoFar start xs ys sum i
    → IsWide (get_or xs i (pos 0) *ℤ get_or ys i (pos 0)) × (product ≡ get_or xs i (pos 0) *ℤ get_or ys i (pos 0)) → IsWide (sum +ℤ product) × (next ≡ sum +ℤ product)
    → SoFar start xs ys next (i + 1)
SoFar-more start xs ys sum i product next p q before one two =
    let here = get_or xs i (pos 0) *ℤ get_or ys i (pos 0) in
    let is : next ≡ sum +ℤ here = two.1 ∙ ap (λ (z : ℤ). sum +ℤ z) one.1 in
    let R : ℤ → Type 0 = λ z. IsWide (sum +ℤ z) in
    let S : ℤ → Type 0 = λ z. SoFar start xs ys z (i + 1) in
    subst S (sym is) (record {
      whole = dot-step xs ys i sum (start +ℤ dot xs ys) p q before.whole;
      wide = λ rest. before.wide (AddsWide-from_first sum xs ys i p q one.0 (subst R one.1 two.0) rest);
      back = λ all. (AddsWide-first sum xs ys i p q (before.back all)).2;
    })

pub narrow_product : (start : ℤ) (xs ys : List ℤ) (sum : ℤ) (i : ℕ) → i < length xs → i < length ys → SoFar start xs ys sum i
    → ¬ IsWide (get_or xs i (pos 0) *ℤ get_or ys i (pos 0)) → ¬ AddsWide start xs ys
narrow_product start xs ys sum i p q before narrow all = narrow (AddsWide-first sum xs ys i p q (before.back all)).0

pub narrow_sum : (start : ℤ) (xs ys : List ℤ) (sum : ℤ) (i : ℕ) (product : ℤ) → i < length xs → i < length ys → SoFar start xs ys sum i
    → product ≡ get_or xs i (pos 0) *ℤ get_or ys i (pos 0) → ¬ IsWide (sum +ℤ product) → ¬ AddsWide start xs ys
narrow_sum start xs ys sum i product p q before is narrow all =
    let R : ℤ → Type 0 = λ z. IsWide (sum +ℤ z) in
    narrow (subst R (sym is) (AddsWide-first sum xs ys i p q (before.back all)).1)

pub total_is_wide : (start : ℤ) (xs ys : List ℤ) → IsWide start → AddsWide start xs ys → IsWide (start +ℤ dot xs ys)
total_is_wide start [] ys wide h = subst IsWide (add_zero start) wide
total_is_wide start (x ∷ xs) [] wide h = subst IsWide (add_zero start) wide
total_is_wide start (x ∷ xs) (y ∷ ys) wide h =
    subst IsWide (add_assoc_int start (x *ℤ y) (dot xs ys)) (total_is_wide (start +ℤ (x *ℤ y)) xs ys h.1 h.2)

pub wide_if_found : (got : Option ℤ) (start : ℤ) (xs ys : List ℤ) → IsWide start → SomeIff got (AddsWide start xs ys) (start +ℤ dot xs ys) → IfSome got IsWide
wide_if_found None start xs ys wide h = tt
wide_if_found (Some z) start xs ys wide h = subst IsWide (sym h.1) (total_is_wide start xs ys wide h.0)
