-- What the tests of a step say together, and each alone where it fails.
use Rattle.std.proofs.Common.{◌≡◌, ℕ, ◌<◌, ◌≤◌, ◌↔◌, ◌∙◌, sym, subst, subst₂, ap₂, refl, arith, Bool, true, false, true≢false, IsTrue, List, length, ℤ, pos, negsuc, unsigned_abs, ◌<ℤ◌}
use Rattle.std.proofs.lemmas.Int.{ints}
use Rattle.az_lin.specs.Affine.{Affine}
use Rattle.az_lin.specs.Combination.{HasWideEntries, IsWideCombination, combination, quotient}
use Rattle.az_lin.specs.CommonDivisor.{DividesEach}
use Rattle.az_lin.specs.Derivation.{IsStep, row_at, sum_of, row_of}
use Rattle.az_lin.specs.declared.step.Step.{Step}
use Rattle.az_lin.proofs.WideSums.{wide_row_of_sums, HasWideEntries-quotient}
use Rattle.farkas_check.specs.Verdict.{IsGood, HasGoodSigns, DividesBy}
use Rattle.farkas_check.specs.declared.next_row.Rule.{Rule}
use Rattle.farkas_check.specs.declared.next_row.Rule.TheVariants.{Rounded, Exact}
use Prim.Native.Nat.{◌∣◌}

pub IsStep-from_good : (rule : Rule) (rows : List Affine) (step : Step) → IsGood rule rows step → IsStep rows step
IsStep-from_good Rounded rows step good = good
IsStep-from_good Exact rows step good = good.valid

pub DividesBy-from_good : (rule : Rule) (rows : List Affine) (step : Step) → IsGood rule rows step → DividesBy rule (unsigned_abs step.g) (sum_of rows step)
DividesBy-from_good Rounded rows step good = good.divides
DividesBy-from_good Exact rows step good = (good.valid.divides, good.exact)

divides_coefs : (rule : Rule) (d : ℕ) (row : Affine) → DividesBy rule d row → DividesEach d row.coefs
divides_coefs Rounded d row h = h
divides_coefs Exact d row h = h.0

good_from_step : (rule : Rule) (rows : List Affine) (step : Step) → IsStep rows step → DividesBy rule (unsigned_abs step.g) (sum_of rows step) → IsGood rule rows step
good_from_step Rounded rows step valid divides = valid
good_from_step Exact rows step valid divides = record { valid = valid; exact = divides.1 }

HasWideEntries-combination : (a : ℤ) (left : Affine) (b : ℤ) (right : Affine) → IsWideCombination a left b right → HasWideEntries (combination a left b right)
HasWideEntries-combination a left b right wide =
    wide_row_of_sums a left.coefs b right.coefs left.konst right.konst (combination a left b right).coefs (combination a left b right).konst
    (wide.coefficients, refl) (wide.constant, refl)

-- the numbers that a step names
pub record Names (rows : List Affine) (step : Step) (a : ℤ) (left : Affine) (b : ℤ) (right : Affine) : Type 0 where
  pub a_is : a ≡ step.a
  pub left_is : row_at rows step.i ≡ left
  pub b_is : b ≡ step.b
  pub right_is : row_at rows step.j ≡ right

same_sum : (rows : List Affine) (step : Step) (a : ℤ) (left : Affine) (b : ℤ) (right : Affine) → Names rows step a left b right → combination a left b right ≡ sum_of rows step
same_sum rows step a left b right named =
    ap₂ (λ (x : ℤ) (l : Affine). combination x l b right) named.a_is (sym named.left_is)
    ∙ ap₂ (λ (y : ℤ) (r : Affine). combination step.a (row_at rows step.i) y r) named.b_is (sym named.right_is)

range_from_names : (rows : List Affine) (step : Step) (a : ℤ) (left : Affine) (b : ℤ) (right : Affine) → Names rows step a left b right
    → IsWideCombination a left b right → IsWideCombination step.a (row_at rows step.i) step.b (row_at rows step.j)
range_from_names rows step a left b right named wide =
    let P : ℤ → Affine → Type 0 = λ x l. IsWideCombination x l b right in
    let Q : ℤ → Affine → Type 0 = λ y r. IsWideCombination step.a (row_at rows step.i) y r in
    subst₂ Q named.b_is (sym named.right_is) (subst₂ P named.a_is (sym named.left_is) wide)

names_from_range : (rows : List Affine) (step : Step) (a : ℤ) (left : Affine) (b : ℤ) (right : Affine) → Names rows step a left b right
    → IsWideCombination step.a (row_at rows step.i) step.b (row_at rows step.j) → IsWideCombination a left b right
names_from_range rows step a left b right named wide =
    let P : ℤ → Affine → Type 0 = λ x l. IsWideCombination x l step.b (row_at rows step.j) in
    let Q : ℤ → Affine → Type 0 = λ y r. IsWideCombination a left y r in
    subst₂ Q (sym named.b_is) named.right_is (subst₂ P (sym named.a_is) named.left_is wide)

-- every test passed
pub good_from_tests : (rule : Rule) (rows : List Affine) (step : Step) (a : ℤ) (left : Affine) (b : ℤ) (right sum : Affine) (n : ℕ) → n ≡ unsigned_abs step.g → HasGoodSigns step
    → step.i < length rows → step.j < length rows → Names rows step a left b right → IsWideCombination a left b right → sum ≡ combination a left b right
    → DividesBy rule n sum → IsGood rule rows step
good_from_tests rule rows step a left b right sum n size signs i_below j_below named wide is divides =
    let whole : sum ≡ sum_of rows step = is ∙ same_sum rows step a left b right named in
    let in_range : IsWideCombination step.a (row_at rows step.i) step.b (row_at rows step.j) = range_from_names rows step a left b right named wide in
    let R : Affine → Type 0 = λ s. DividesBy rule (unsigned_abs step.g) s in
    let S : ℕ → Type 0 = λ m. DividesBy rule m sum in
    let by : DividesBy rule (unsigned_abs step.g) (sum_of rows step) = subst R whole (subst S size divides) in
    good_from_step rule rows step (record {
      left_below = i_below;
      right_below = j_below;
      left_weight = signs.left_weight;
      right_weight = signs.right_weight;
      divisor = signs.divisor;
      in_range = in_range;
      divides = divides_coefs rule (unsigned_abs step.g) (sum_of rows step) by;
      result_in_range = HasWideEntries-quotient (sum_of rows step).coefs (sum_of rows step).konst step.g signs.divisor
          (HasWideEntries-combination step.a (row_at rows step.i) step.b (row_at rows step.j) in_range);
    }) by

pub row_from_tests : (rows : List Affine) (step : Step) (a : ℤ) (left : Affine) (b : ℤ) (right sum : Affine) (g : ℤ) → g ≡ step.g → Names rows step a left b right
    → sum ≡ combination a left b right → quotient sum g ≡ row_of rows step
row_from_tests rows step a left b right sum g divisor named is =
    ap₂ (λ (s : Affine) (d : ℤ). quotient s d) (is ∙ same_sum rows step a left b right named) divisor

-- one test failed
pub bad_from_signs : (rule : Rule) (rows : List Affine) (step : Step) (passed : Bool) → IsTrue passed ↔ HasGoodSigns step → passed ≡ false → ¬ IsGood rule rows step
bad_from_signs rule rows step passed test failed good =
    let valid = IsStep-from_good rule rows step good in
    true≢false (sym (test.1 (record { left_weight = valid.left_weight; right_weight = valid.right_weight; divisor = valid.divisor })) ∙ failed)

pub bad_from_left : (rule : Rule) (rows : List Affine) (step : Step) → length rows ≤ step.i → ¬ IsGood rule rows step
bad_from_left rule rows step past good = let valid = IsStep-from_good rule rows step good in omega (arith, valid.left_below)

pub bad_from_right : (rule : Rule) (rows : List Affine) (step : Step) → length rows ≤ step.j → ¬ IsGood rule rows step
bad_from_right rule rows step past good = let valid = IsStep-from_good rule rows step good in omega (arith, valid.right_below)

pub bad_from_range : (rule : Rule) (rows : List Affine) (step : Step) (a : ℤ) (left : Affine) (b : ℤ) (right : Affine) → Names rows step a left b right
    → ¬ IsWideCombination a left b right → ¬ IsGood rule rows step
bad_from_range rule rows step a left b right named narrow good =
    narrow (names_from_range rows step a left b right named (IsStep-from_good rule rows step good).in_range)

pub bad_from_division : (rule : Rule) (rows : List Affine) (step : Step) (a : ℤ) (left : Affine) (b : ℤ) (right sum : Affine) (passed : Bool) (n : ℕ) → n ≡ unsigned_abs step.g
    → Names rows step a left b right → sum ≡ combination a left b right → IsTrue passed ↔ DividesBy rule n sum → passed ≡ false → ¬ IsGood rule rows step
bad_from_division rule rows step a left b right sum passed n size named is test failed good =
    let whole : sum ≡ sum_of rows step = is ∙ same_sum rows step a left b right named in
    let R : Affine → Type 0 = λ s. DividesBy rule (unsigned_abs step.g) s in
    let S : ℕ → Type 0 = λ m. DividesBy rule m sum in
    true≢false (sym (test.1 (subst S (sym size) (subst R (sym whole) (DividesBy-from_good rule rows step good)))) ∙ failed)

pub unsigned_abs-positive : (d : ℤ) (n : ℕ) → n ≡ unsigned_abs d → pos 0 <ℤ d → 0 < n
unsigned_abs-positive (pos d) n same h = omega (arith, ints)
unsigned_abs-positive (negsuc d) n same h = absurd (omega (arith, ints))

-- the test of a divisor under each rule
pub rounded_test : (rule : Rule) (d : ℕ) (row : Affine) (coefs : List ℤ) (passed : Bool) → rule ≡ Rounded → coefs ≡ row.coefs
    → IsTrue passed ↔ DividesEach d coefs → IsTrue passed ↔ DividesBy rule d row
rounded_test rule d row coefs passed is same test =
    let P : Rule → Type 0 = λ r. IsTrue passed ↔ DividesBy r d row in
    let Q : List ℤ → Type 0 = λ cs. IsTrue passed ↔ DividesEach d cs in
    subst P (sym is) (subst Q same test)

pub exact_test : (rule : Rule) (d : ℕ) (row : Affine) (coefs : List ℤ) (konst : ℤ) (first second : Bool) → rule ≡ Exact → coefs ≡ row.coefs → konst ≡ row.konst
    → first ≡ true → IsTrue first ↔ DividesEach d coefs → IsTrue second ↔ (d ∣ unsigned_abs konst) → IsTrue second ↔ DividesBy rule d row
exact_test rule d row coefs konst first second is same same_konst passed each one =
    let P : Rule → Type 0 = λ r. IsTrue second ↔ DividesBy r d row in
    let Q : List ℤ → Type 0 = DividesEach d in
    let R : ℤ → Type 0 = λ k. d ∣ unsigned_abs k in
    subst P (sym is) (λ t. (subst Q same (each.0 passed), subst R same_konst (one.0 t)), λ h. one.1 (subst R (sym same_konst) h.1))

pub exact_test_fails : (rule : Rule) (d : ℕ) (row : Affine) (coefs : List ℤ) (first : Bool) → rule ≡ Exact → coefs ≡ row.coefs
    → first ≡ false → IsTrue first ↔ DividesEach d coefs → IsTrue first ↔ DividesBy rule d row
exact_test_fails rule d row coefs first is same failed each =
    let P : Rule → Type 0 = λ r. IsTrue first ↔ DividesBy r d row in
    let Q : List ℤ → Type 0 = DividesEach d in
    subst P (sym is) (λ t. absurd (true≢false (sym t ∙ failed)), λ h. each.1 (subst Q (sym same) h.0))
