-- How many cases there are, counted as far as a greatest number.
use Rattle.std.proofs.Common.{◌≡◌, ℕ, zero, suc, ◌+◌, ◌*◌, ◌<◌, ◌≤◌, ◌∙◌, min, List, [], ◌∷◌, ◌++◌, length, drop, get_or, sym, ap, arith, inl, inr, mul_comm, mul_assoc, mul_left_comm, mul-suc, mul-one}
use Rattle.std.proofs.Math.Seq.{drop-length}
use Rattle.std.specs.Prelude.{map}
use Rattle.std.proofs.lemmas.List.{length-map, length-append}
use Rattle.std.proofs.lemmas.Bool.{cases_lt}
use Rattle.az_lin.specs.Affine.{Affine}
use Rattle.formula_refute.specs.declared.formula.Formula.{Formula}
use Rattle.formula_refute.specs.Claims.{all_of, any_of, claim}
use Rattle.formula_refute.specs.Cases.{choices, cases, cases_of_all, cases_of_any}
use Rattle.formula_refute.proofs.FormulaData.{below, next_member}

pub length-choices : (xs ys : List (List Affine)) → length (choices xs ys) ≡ length xs * length ys
length-choices [] ys = omega arith
length-choices (x ∷ xs) ys =
    let here : length (map (λ y. x ++ y) ys) ≡ length ys = length-map ys (λ y. x ++ y) in
    let rest : length (choices xs ys) ≡ length xs * length ys = length-choices xs ys in
    let both : length (map (λ y. x ++ y) ys ++ choices xs ys) ≡ length (map (λ y. x ++ y) ys) + length (choices xs ys) = length-append (map (λ y. x ++ y) ys) (choices xs ys) in
    omega (arith, here, rest, both)

abbrev pub capped : ℕ → ℕ
capped n = min n 131073

grows : (a b : ℕ) → a ≤ a * suc b
grows a b = rw mul-suc (omega arith)

-- a product of what was counted so far
capped_first : (a b : ℕ) → capped (capped a * b) ≡ capped (a * b)
capped_first a zero = omega arith
capped_first a (suc b) = elim (cases_lt a 131073) as (λ _. capped (capped a * suc b) ≡ capped (a * suc b)) [
  | inl below ↦ (let same : capped a ≡ a = omega (arith, below) in ap (λ n. capped (n * suc b)) same)
  | inr above ↦ (let left = grows (capped a) b in let right = grows a b in omega (arith, above, left, right))
]

capped_product : (a n rest : ℕ) → capped (capped (a * capped n) * rest) ≡ capped (a * (n * rest))
capped_product a n rest =
    let open_out : capped (capped (a * capped n) * rest) ≡ capped ((a * capped n) * rest) = capped_first (a * capped n) rest in
    let turned : (a * capped n) * rest ≡ capped n * (a * rest) = ap (λ k. k * rest) (mul_comm a (capped n)) ∙ mul_assoc (capped n) a rest in
    let open_in : capped (capped n * (a * rest)) ≡ capped (n * (a * rest)) = capped_first n (a * rest) in
    let back : n * (a * rest) ≡ a * (n * rest) = mul_left_comm n a rest in
    open_out ∙ ap capped turned ∙ open_in ∙ ap capped back

module _ (items : List Formula) (i : ℕ) (m : Formula) (here : i < length items) (is : m ≡ get_or items i m) where
  opened : drop i items ≡ m ∷ drop (i + 1) items
  opened = next_member items i m here is

  -- a count goes on with the next member
  pub count_more_all : (count own next whole : ℕ) → own ≡ capped (length (cases (claim m))) → next ≡ capped (count * own)
      → capped (count * length (cases_of_all (below (drop i items)))) ≡ whole
      → (next ≤ 131073) × (capped (next * length (cases_of_all (below (drop (i + 1) items)))) ≡ whole)
  count_more_all count own next whole own_is next_is so_far =
      let rest : List Formula = drop (i + 1) items in
      let product : length (cases_of_all (below (drop i items))) ≡ length (cases (claim m)) * length (cases_of_all (below rest)) =
      ap (λ xs. length (cases_of_all (below xs))) opened ∙ length-choices (cases (claim m)) (cases_of_all (below rest)) in
      let step = capped_product count (length (cases (claim m))) (length (cases_of_all (below rest))) in (
        omega (arith, next_is),
        ap (λ n. capped (n * length (cases_of_all (below rest)))) (next_is ∙ ap (λ n. capped (count * n)) own_is) ∙ step ∙ ap (λ n. capped (count * n)) (sym product) ∙ so_far,
      )

  pub count_more_any : (count own next whole : ℕ) → own ≡ capped (length (cases (claim m))) → next ≡ capped (count + own)
      → capped (count + length (cases_of_any (below (drop i items)))) ≡ whole
      → (next ≤ 131073) × (capped (next + length (cases_of_any (below (drop (i + 1) items)))) ≡ whole)
  count_more_any count own next whole own_is next_is so_far =
      let rest : List Formula = drop (i + 1) items in
      let sum : length (cases_of_any (below (drop i items))) ≡ length (cases (claim m)) + length (cases_of_any (below rest)) =
      ap (λ xs. length (cases_of_any (below xs))) opened ∙ length-append (cases (claim m)) (cases_of_any (below rest)) in
      (omega (arith, next_is), omega (arith, sum, own_is, next_is, so_far))

-- the count after the last member
module _ (f : Formula) (items : List Formula) (i count : ℕ) (end : i ≡ length items) (within : count ≤ 131073) where
  none_left : drop i items ≡ []
  none_left = ap (λ n. drop n items) end ∙ drop-length items

  pub count_of_all : claim f ≡ all_of (below items) → capped (count * length (cases_of_all (below (drop i items)))) ≡ capped (length (cases_of_all (below items)))
      → count ≡ capped (length (cases (claim f)))
  count_of_all shape so_far =
      let one : length (cases_of_all (below (drop i items))) ≡ 1 = ap (λ xs. length (cases_of_all (below xs))) none_left in
      let whole : length (cases (claim f)) ≡ length (cases_of_all (below items)) = ap (λ c. length (cases c)) shape in
      let alone : count * length (cases_of_all (below (drop i items))) ≡ count = ap (λ n. count * n) one ∙ mul-one count in
      omega (arith, alone, whole, so_far)

  pub count_of_any : claim f ≡ any_of (below items) → capped (count + length (cases_of_any (below (drop i items)))) ≡ capped (length (cases_of_any (below items)))
      → count ≡ capped (length (cases (claim f)))
  count_of_any shape so_far =
      let none : length (cases_of_any (below (drop i items))) ≡ 0 = ap (λ xs. length (cases_of_any (below xs))) none_left in
      let whole : length (cases (claim f)) ≡ length (cases_of_any (below items)) = ap (λ c. length (cases c)) shape in
      omega (arith, none, whole, so_far)
