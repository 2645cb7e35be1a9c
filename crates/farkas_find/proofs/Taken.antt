-- The bound that is taken from a side is one of that side, and no other of that side is tighter.
use Rattle.std.proofs.Common.{◌≡◌, ◌∙◌, ap, refl, sym, subst, arith, true, false, cond, List, [], ◌∷◌, Option, Some, None, MatchOption, ℤ, pos, ◌*ℤ◌, ◌≤ℤ◌, ◌<ℤ◌, int_lt}
use Rattle.std.specs.List.{All, fold}
use Rattle.std.proofs.lemmas.Int.{ints}
use Rattle.std.proofs.lemmas.List.Elements.{All-nil, All-cons, All-head, All-tail}
use Rattle.az_lin.proofs.Integers.{mul_comm_int, mul_left_comm_int, le-mul_left_int, le_of_mul_left_int}
use Rattle.farkas_find.specs.BackSubstitution.{magnitude, is_tighter, tighter, tighter_of}
use Rattle.farkas_find.specs.declared.bound.Bound.{Bound}

-- the bound is at least as tight as the other from its side
abbrev pub IsAsTight : Bound → Bound → Type 0
IsAsTight bound other = (bound.rest *ℤ magnitude other.coef) ≤ℤ (other.rest *ℤ magnitude bound.coef)

abbrev pub IsProper : Bound → Type 0
IsProper bound = pos 0 <ℤ magnitude bound.coef

exchange : (x y z : ℤ) → x *ℤ (y *ℤ z) ≡ z *ℤ (y *ℤ x)
exchange x y z = mul_left_comm_int x y z ∙ ap (λ (w : ℤ). y *ℤ w) (mul_comm_int x z) ∙ sym (mul_left_comm_int z y x)

tight_through : (r s t a b c : ℤ) → pos 0 ≤ℤ a → pos 0 <ℤ b → pos 0 ≤ℤ c → (r *ℤ b) ≤ℤ (s *ℤ a) → (s *ℤ c) ≤ℤ (t *ℤ b) → (r *ℤ c) ≤ℤ (t *ℤ a)
tight_through r s t a b c p q u first second =
    let one : (c *ℤ (r *ℤ b)) ≤ℤ (c *ℤ (s *ℤ a)) = le-mul_left_int c (r *ℤ b) (s *ℤ a) u first in
    let two : (a *ℤ (s *ℤ c)) ≤ℤ (a *ℤ (t *ℤ b)) = le-mul_left_int a (s *ℤ c) (t *ℤ b) p second in
    le_of_mul_left_int b (r *ℤ c) (t *ℤ a) q (omega (arith, ints, one, two, exchange b r c, exchange c s a, exchange a t b))

as_tight-trans : (a b c : Bound) → IsProper b → IsAsTight a b → IsAsTight b c → IsAsTight a c
as_tight-trans a b c proper first second =
    tight_through a.rest b.rest c.rest (magnitude a.coef) (magnitude b.coef) (magnitude c.coef) (omega (arith, ints)) proper (omega (arith, ints)) first second

as_tight-self : (a : Bound) → IsAsTight a a
as_tight-self a = omega (arith, ints)

tighter_one : (x y : ℤ) → int_lt x y ≡ true → x ≤ℤ y
tighter_one x y h = grind (arith, ints)

other_one : (x y : ℤ) → int_lt x y ≡ false → y ≤ℤ x
other_one x y h = grind (arith, ints)

pub record Tightest (P : Bound → Type 0) (best : Bound) (others : List Bound) (got : Option Bound) : Type 0 where
  pub bound : Bound
  pub is : got ≡ Some bound
  pub one : P bound
  pub first : IsAsTight bound best
  pub all : All (IsAsTight bound) others

tightest_from : (P : Bound → Type 0) (best : Bound) (xs : List Bound) → P best → IsProper best → All (λ x. P x × IsProper x) xs → Tightest P best xs (fold tighter_of (Some best) xs)
unfolding tighter
tightest_from P best [] p proper all = record { bound = best; is = refl; one = p; first = as_tight-self best; all = All-nil (IsAsTight best) }
tightest_from P best (x ∷ xs) p proper all =
    let Q : Bound → Type 0 = λ y. P y × IsProper y in
    let head : P x × IsProper x = All-head Q x xs all in
    let rest : All Q xs = All-tail Q x xs all in
    (elim (is_tighter x best) as (λ b. is_tighter x best ≡ b → Tightest P best (x ∷ xs) (fold tighter_of (Some (cond b x best)) xs)) [
      | true ↦ λ e.
          let more = tightest_from P x xs head.0 head.1 rest in
          let step : IsAsTight x best = tighter_one (x.rest *ℤ magnitude best.coef) (best.rest *ℤ magnitude x.coef) e in
          record {
            bound = more.bound;
            is = more.is;
            one = more.one;
            first = as_tight-trans more.bound x best head.1 more.first step;
            all = All-cons (IsAsTight more.bound) x xs more.first more.all;
          }
      | false ↦ λ e.
          let more = tightest_from P best xs p proper rest in
          let step : IsAsTight best x = other_one (x.rest *ℤ magnitude best.coef) (best.rest *ℤ magnitude x.coef) e in
          record {
            bound = more.bound;
            is = more.is;
            one = more.one;
            first = more.first;
            all = All-cons (IsAsTight more.bound) x xs (as_tight-trans more.bound best x proper more.first step) more.all;
          }
    ]) refl

pub tightest_is : (P : Bound → Type 0) (xs : List Bound) → All (λ x. P x × IsProper x) xs
    → MatchOption (fold tighter_of None xs) (xs ≡ []) (λ bound. P bound × All (IsAsTight bound) xs)
unfolding tighter
tightest_is P [] all = refl
tightest_is P (x ∷ xs) all =
    let Q : Bound → Type 0 = λ y. P y × IsProper y in
    let head : P x × IsProper x = All-head Q x xs all in
    let more = tightest_from P x xs head.0 head.1 (All-tail Q x xs all) in
    let W : Option Bound → Type 0 = λ got. MatchOption got ((x ∷ xs) ≡ []) (λ bound. P bound × All (IsAsTight bound) (x ∷ xs)) in
    subst W (sym more.is) (more.one, All-cons (IsAsTight more.bound) x xs more.first more.all)
