-- The rows of the case with a number, found member by member.
use Rattle.std.proofs.Common.{◌≡◌, ℕ, zero, suc, ◌+◌, ◌*◌, ◌/◌, ◌%◌, ◌<◌, ◌≤◌, ◌∙◌, max, List, [], ◌∷◌, ◌++◌, length, drop, get_or, refl, sym, ap, subst, arith, inl, inr, mul_comm, div-add-mod', mul-div_cancel, zero-mul, mul-zero, le-mul_of_pos_right, ◌-◌}
use Rattle.std.proofs.lemmas.Bool.{cases_eq}
use Rattle.std.specs.Prelude.{map}
use Rattle.std.proofs.Math.Seq.{drop-length}
use Rattle.std.proofs.lemmas.Nat.{div_below, mod_below}
use Rattle.std.proofs.lemmas.List.{length-map, get_or-append-add, get_or_append_left, append_assoc, append-nil, length-append}
use Rattle.az_lin.specs.Affine.{Affine}
use Rattle.formula_refute.specs.declared.formula.Formula.{Formula}
use Rattle.formula_refute.specs.Claims.{claim}
use Rattle.formula_refute.specs.Cases.{choices, cases, cases_of_all, cases_of_any}
use Rattle.formula_refute.proofs.FormulaData.{below, next_member}
use Rattle.formula_refute.proofs.Counts.{capped, length-choices}

abbrev pub case_at : List (List Affine) → ℕ → List Affine
case_at all number = get_or all number []

joined_at : (x : List Affine) (ys : List (List Affine)) (r : ℕ) → r < length ys → case_at (map (λ y. x ++ y) ys) r ≡ x ++ case_at ys r
joined_at x [] r below = absurd (omega arith)
joined_at x (y ∷ ys) zero below = refl
joined_at x (y ∷ ys) (suc r) below = joined_at x ys r (omega arith)

-- a choice by its two numbers
choice_at : (xs ys : List (List Affine)) (q r : ℕ) → q < length xs → r < length ys → case_at (choices xs ys) (q * length ys + r) ≡ case_at xs q ++ case_at ys r
choice_at [] ys q r first second = absurd (omega arith)
choice_at (x ∷ xs) ys zero r first second =
    let here : r < length (map (λ y. x ++ y) ys) = rw (length-map ys (λ y. x ++ y)) second in
    let number : zero * length ys + r ≡ r = omega arith in
    ap (case_at (choices (x ∷ xs) ys)) number ∙ get_or_append_left (map (λ y. x ++ y) ys) (choices xs ys) [] r here ∙ joined_at x ys r second
choice_at (x ∷ xs) ys (suc q) r first second =
    let here : length (map (λ y. x ++ y) ys) ≡ length ys = length-map ys (λ y. x ++ y) in
    let number : suc q * length ys + r ≡ length (map (λ y. x ++ y) ys) + (q * length ys + r) = omega (arith, here) in
    ap (case_at (choices (x ∷ xs) ys)) number ∙ get_or-append-add (map (λ y. x ++ y) ys) (choices xs ys) (q * length ys + r) []
    ∙ choice_at xs ys q r (omega arith) second

-- a number above, and what its quotient and remainder are below
module _ (n rest left : ℕ) (within : left < n * rest) where
  rest_some : 0 < rest
  rest_some = elim (cases_eq rest 0) as (λ _. 0 < rest) [
    | inl none ↦ (let zero_product : n * rest ≡ 0 = ap (λ k. n * k) none ∙ mul-zero n in absurd (omega (arith, within, zero_product)))
    | inr some ↦ omega (arith, some)
  ]

  own_some : 0 < n
  own_some = elim (cases_eq n 0) as (λ _. 0 < n) [
    | inl none ↦ (let zero_product : n * rest ≡ 0 = ap (λ k. k * rest) none ∙ zero-mul rest in absurd (omega (arith, within, zero_product)))
    | inr some ↦ omega (arith, some)
  ]

  quotient_within : left / rest < n
  quotient_within = div_below left rest n rest_some within

-- where the search stands before a member of `all_of`
pub record AllGoesOn (items : List Formula) (i number : ℕ) (given rows : List Affine) (after left : ℕ) : Type 0 where
  pub after_is : after ≡ length (cases_of_all (below (drop i items)))
  pub few : after ≤ 131072
  pub within : left < after
  pub same : rows ++ case_at (cases_of_all (below (drop i items))) left ≡ given ++ case_at (cases_of_all (below items)) number

-- the number of the member's case, and where the search goes on
pub record MemberStep (items : List Formula) (i number : ℕ) (given rows : List Affine) (m : Formula) (own next left : ℕ) : Type 0 where
  pub count : own ≡ length (cases (claim m))
  pub few : own ≤ 131072
  pub within : left / next < own
  pub goes_on : (pushed : List Affine) → pushed ≡ rows ++ case_at (cases (claim m)) (left / next) → AllGoesOn items (i + 1) number given pushed next (left % next)

pub all_more : (items : List Formula) (i number : ℕ) (given rows : List Affine) (after left : ℕ) (m : Formula) (own next : ℕ) → i < length items → m ≡ get_or items i m
    → own ≡ max (capped (length (cases (claim m)))) 1 → next ≡ max (after / own) 1 → AllGoesOn items i number given rows after left
    → MemberStep items i number given rows m own next left
all_more items i number given rows after left m own next here is own_is next_is so_far =
    let rest : List Formula = drop (i + 1) items in
    let n : ℕ = length (cases (claim m)) in
    let later : ℕ = length (cases_of_all (below rest)) in
    let opened : cases_of_all (below (drop i items)) ≡ choices (cases (claim m)) (cases_of_all (below rest)) = ap (λ xs. cases_of_all (below xs)) (next_member items i m here is) in
    let product : after ≡ n * later = so_far.after_is ∙ ap length opened ∙ length-choices (cases (claim m)) (cases_of_all (below rest)) in
    let inside : left < n * later = subst (λ k. left < k) product so_far.within in
    let some_later : 0 < later = rest_some n later left inside in
    let some_own : 0 < n = own_some n later left inside in
    let own_below : n ≤ after = subst (λ k. n ≤ k) (sym product) (le-mul_of_pos_right n some_later) in
    let later_below : later ≤ after = subst (λ k. later ≤ k) (sym (product ∙ mul_comm n later)) (le-mul_of_pos_right later some_own) in
    let few = so_far.few in
    let count : own ≡ n = omega (arith, own_is, few, own_below, some_own) in
    let quotient : after / own ≡ later = ap (λ k. after / k) count ∙ ap (λ k. k / n) (product ∙ mul_comm n later) ∙ mul-div_cancel later some_own in
    let next_later : next ≡ later = omega (arith, next_is, quotient, some_later) in
    let q : ℕ = left / later in
    let r : ℕ = left % later in
    let split : q * later + r ≡ left = div-add-mod' left later in
    let q_in : q < n = quotient_within n later left inside in
    let r_in : r < later = mod_below left later some_later in
    let here_is : case_at (cases_of_all (below (drop i items))) left ≡ case_at (cases (claim m)) q ++ case_at (cases_of_all (below rest)) r =
    ap (λ xs. case_at xs left) opened ∙ ap (case_at (choices (cases (claim m)) (cases_of_all (below rest)))) (sym split)
    ∙ choice_at (cases (claim m)) (cases_of_all (below rest)) q r q_in r_in in
    let Q : ℕ → Type 0 = λ k. MemberStep items i number given rows m own k left in
    let step : Q later = record {
      count = count;
      few = omega (arith, count, own_below, few);
      within = omega (arith, q_in, count);
      goes_on = λ pushed pushed_is. record {
        after_is = refl;
        few = omega (arith, later_below, few);
        within = r_in;
        same = ap (λ xs. xs ++ case_at (cases_of_all (below rest)) r) pushed_is ∙ append_assoc rows (case_at (cases (claim m)) q) (case_at (cases_of_all (below rest)) r)
            ∙ ap (λ xs. rows ++ xs) (sym here_is) ∙ so_far.same;
      };
    } in
    subst Q (sym next_later) step

pub all_ends : (items : List Formula) (i number : ℕ) (given rows : List Affine) (after left : ℕ) → i ≡ length items → AllGoesOn items i number given rows after left
    → rows ≡ given ++ case_at (cases_of_all (below items)) number
all_ends items i number given rows after left end so_far =
    let none : drop i items ≡ [] = ap (λ n. drop n items) end ∙ drop-length items in
    let one : length (cases_of_all (below (drop i items))) ≡ 1 = ap (λ xs. length (cases_of_all (below xs))) none in
    let within = so_far.within in
    let after_is = so_far.after_is in
    let first : left ≡ 0 = omega (arith, within, after_is, one) in
    let empty : case_at (cases_of_all (below (drop i items))) left ≡ [] = ap (λ xs. case_at (cases_of_all (below xs)) left) none ∙ ap (case_at ([] ∷ [])) first in
    sym (append-nil rows) ∙ ap (λ xs. rows ++ xs) (sym empty) ∙ so_far.same

-- where the search stands before a member of `any_of`
pub record AnyGoesOn (items : List Formula) (i number left : ℕ) : Type 0 where
  pub few : length (cases_of_any (below (drop i items))) ≤ 131072
  pub within : left < length (cases_of_any (below (drop i items)))
  pub same : case_at (cases_of_any (below (drop i items))) left ≡ case_at (cases_of_any (below items)) number

module _ (items : List Formula) (i number left : ℕ) (m : Formula) (own : ℕ) (here : i < length items) (is : m ≡ get_or items i m)
    (own_is : own ≡ capped (length (cases (claim m)))) (so_far : AnyGoesOn items i number left) where
  any_opened : cases_of_any (below (drop i items)) ≡ cases (claim m) ++ cases_of_any (below (drop (i + 1) items))
  any_opened = ap (λ xs. cases_of_any (below xs)) (next_member items i m here is)

  any_sum : length (cases_of_any (below (drop i items))) ≡ length (cases (claim m)) + length (cases_of_any (below (drop (i + 1) items)))
  any_sum = ap length any_opened ∙ length-append (cases (claim m)) (cases_of_any (below (drop (i + 1) items)))

  own_whole : own ≡ length (cases (claim m))
  own_whole = let few = so_far.few in let sum = any_sum in omega (arith, own_is, few, sum)

  -- the case is one of this member
  pub any_here : left < own → (own ≡ length (cases (claim m))) × (own ≤ 131072) × (case_at (cases (claim m)) left ≡ case_at (cases_of_any (below items)) number)
  any_here below_own =
      let few = so_far.few in
      let sum = any_sum in
      let whole = own_whole in
      let inside : left < length (cases (claim m)) = omega (arith, whole, below_own) in (
        whole,
        omega (arith, few, sum, whole),
        sym (ap (λ xs. case_at xs left) any_opened ∙ get_or_append_left (cases (claim m)) (cases_of_any (below (drop (i + 1) items))) [] left inside) ∙ so_far.same,
      )

  -- or of one behind it
  pub any_more : own ≤ left → AnyGoesOn items (i + 1) number (left - own)
  any_more above =
      let few = so_far.few in
      let within = so_far.within in
      let sum = any_sum in
      let whole = own_whole in
      let split : left ≡ length (cases (claim m)) + (left - own) = omega (arith, whole, above) in
      record {
        few = omega (arith, few, sum);
        within = omega (arith, within, sum, whole, above);
        same = sym (ap (λ xs. case_at xs left) any_opened ∙ ap (case_at (cases (claim m) ++ cases_of_any (below (drop (i + 1) items)))) split
            ∙ get_or-append-add (cases (claim m)) (cases_of_any (below (drop (i + 1) items))) (left - own) []) ∙ so_far.same;
      }

pub any_ends : (items : List Formula) (i number left : ℕ) → i ≡ length items → ¬ AnyGoesOn items i number left
any_ends items i number left end so_far =
    let none : length (cases_of_any (below (drop i items))) ≡ 0 = ap (λ n. length (cases_of_any (below (drop n items)))) end ∙ ap (λ xs. length (cases_of_any (below xs))) (drop-length items) in
    let within = so_far.within in
    omega (arith, within, none)
