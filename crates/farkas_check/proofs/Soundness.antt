-- A derivation refutes: at a whole point where each row of the system is at least 0, so is each row that is made,
-- and the last one can't be.
use Rattle.std.proofs.Common.{◌≡◌, ℕ, ◌+◌, ◌-◌, ◌<◌, ◌∙◌, suc, refl, sym, subst, ap, ap₂, arith, List, [], ◌∷◌, ◌++◌, length, All, Result, Ok, Err, OnOk, ℤ, pos, ◌+ℤ◌, ◌*ℤ◌, ◌≤ℤ◌}
use Rattle.std.proofs.lemmas.Int.{ints}
use Rattle.std.proofs.lemmas.List.{length-map}
use Rattle.std.proofs.lemmas.List.Elements.{All-get_or, All-push, All-head, All-tail, length_all_zip}
use Rattle.std.specs.Int.{int_div_euclid}
use Rattle.az_lin.specs.Affine.{Affine, Polyhedron, HasWidth, Holds, IsAtLeastZero, dot, value_at}
use Rattle.az_lin.specs.Combination.{IsWideSum, scaled_sum, scaled_sums, combination, quotient}
use Rattle.az_lin.specs.Derivation.{IsStep, IsExactStep, row_at, sum_of, row_of, rows_after, AllSteps, IsContradiction, IsDerivation}
use Rattle.az_lin.specs.declared.step.Step.{Step}
use Rattle.az_lin.proofs.StepLaws.{value_at-combination, scaled_sum-nonneg, quotient-nonneg}
use Rattle.farkas_check.specs.Verdict.{IsVerdict}
use Rattle.farkas_check.specs.declared.fault.CheckFault.{CheckFault}
use Rattle.az_lin.proofs.Derivations.{length-rows_after}

length-scaled_sums : (a : ℤ) (xs : List ℤ) (b : ℤ) (ys : List ℤ) → length xs ≡ length ys → length (scaled_sums a xs b ys) ≡ length xs
length-scaled_sums a [] b ys e = refl
length-scaled_sums a (x ∷ xs) b [] e = absurd (omega arith)
length-scaled_sums a (x ∷ xs) b (y ∷ ys) e = ap suc (length-scaled_sums a xs b ys (omega arith))

pub HasWidth-quotient : (width : ℕ) (a : ℤ) (left : Affine) (b : ℤ) (right : Affine) (divisor : ℤ) → HasWidth width left → HasWidth width right
    → HasWidth width (quotient (combination a left b right) divisor)
HasWidth-quotient width a left b right divisor p q =
    length-map (scaled_sums a left.coefs b right.coefs) (λ coef. int_div_euclid coef divisor)
    ∙ length-scaled_sums a left.coefs b right.coefs (p ∙ sym q) ∙ p

pub quotient_width : (width : ℕ) (a : ℤ) (left : Affine) (b : ℤ) (right : Affine) (divisor : ℤ) (sum made : Affine) → HasWidth width left → HasWidth width right
    → sum ≡ combination a left b right → made ≡ quotient sum divisor → HasWidth width made
quotient_width width a left b right divisor sum made p q is made_is =
    let whole : made ≡ quotient (combination a left b right) divisor = made_is ∙ ap (λ (s : Affine). quotient s divisor) is in
    subst (HasWidth width) (sym whole) (HasWidth-quotient width a left b right divisor p q)

-- the two rows of a step are equally wide, since every column has its sum
pub same_width : (rows : List Affine) (step : Step) → IsStep rows step → length (row_at rows step.i).coefs ≡ length (row_at rows step.j).coefs
same_width rows step valid =
    length_all_zip (λ x y. IsWideSum step.a x step.b y) (row_at rows step.i).coefs (row_at rows step.j).coefs valid.in_range.coefficients

step_keeps : (rows : List Affine) (step : Step) (z : List ℤ) → IsStep rows step → All (IsAtLeastZero z) rows → IsAtLeastZero z (row_of rows step)
step_keeps rows step z valid holds =
    let empty : Affine = record { coefs = []; konst = pos 0 } in
    let left = row_at rows step.i in
    let right = row_at rows step.j in
    let left_holds : pos 0 ≤ℤ value_at left z = All-get_or (IsAtLeastZero z) rows step.i empty valid.left_below holds in
    let right_holds : pos 0 ≤ℤ value_at right z = All-get_or (IsAtLeastZero z) rows step.j empty valid.right_below holds in
    let sum_holds : pos 0 ≤ℤ scaled_sum step.a (value_at left z) step.b (value_at right z) =
    scaled_sum-nonneg step.a (value_at left z) step.b (value_at right z) valid.left_weight left_holds valid.right_weight right_holds in
    let P : ℤ → Type 0 = λ n. pos 0 ≤ℤ n in
    quotient-nonneg (sum_of rows step) step.g z valid.divisor valid.divides
    (subst P (sym (value_at-combination step.a left step.b right z (same_width rows step valid))) sum_holds)

steps_keep : (rows : List Affine) (steps : List Step) (z : List ℤ) → AllSteps IsStep rows steps → All (IsAtLeastZero z) rows → All (IsAtLeastZero z) (rows_after rows steps)
steps_keep rows [] z all holds = holds
steps_keep rows (step ∷ steps) z all holds =
    steps_keep (rows ++ row_of rows step ∷ []) steps z all.1 (All-push (IsAtLeastZero z) rows (row_of rows step) holds (step_keeps rows step z all.0 holds))

zero_product : (y : ℤ) → (pos 0 *ℤ y) +ℤ pos 0 ≡ pos 0
zero_product y = omega (arith, ints)

dot-zeros : (xs z : List ℤ) → All (λ x. x ≡ pos 0) xs → dot xs z ≡ pos 0
dot-zeros [] z h = refl
dot-zeros (x ∷ xs) [] h = refl
dot-zeros (x ∷ xs) (y ∷ z) h =
    let none : x ≡ pos 0 = All-head (λ x. x ≡ pos 0) x xs h in
    let rest : dot xs z ≡ pos 0 = dot-zeros xs z (All-tail (λ x. x ≡ pos 0) x xs h) in
    ap₂ (λ (a b : ℤ). (a *ℤ y) +ℤ b) none rest ∙ zero_product y

contradiction_fails : (row : Affine) (z : List ℤ) → IsContradiction row → ¬ IsAtLeastZero z row
contradiction_fails row z contradiction holds =
    let none : dot row.coefs z ≡ pos 0 = dot-zeros row.coefs z contradiction.constant_alone in
    let negative = contradiction.negative in
    omega (arith, ints)

pub refutes : (rows : List Affine) (steps : List Step) (z : List ℤ) → IsDerivation IsStep rows steps → ¬ All (IsAtLeastZero z) rows
refutes rows steps z derivation holds =
    let empty : Affine = record { coefs = []; konst = pos 0 } in
    let some : 0 < length steps = derivation.ends.some in
    let place : length rows + length steps - 1 < length (rows_after rows steps) = omega (arith, length-rows_after rows steps) in
    contradiction_fails (row_at (rows_after rows steps) (length rows + length steps - 1)) z derivation.ends.last
    (All-get_or (IsAtLeastZero z) (rows_after rows steps) (length rows + length steps - 1) empty place (steps_keep rows steps z derivation.steps_good holds))

-- a derivation by the rule of version 1 is one
steps_from_exact : (rows : List Affine) (steps : List Step) → AllSteps IsExactStep rows steps → AllSteps IsStep rows steps
steps_from_exact rows [] all = tt
steps_from_exact rows (step ∷ steps) all = (all.0.valid, steps_from_exact (rows ++ row_of rows step ∷ []) steps all.1)

pub derivation_from_exact : (rows : List Affine) (steps : List Step) → IsDerivation IsExactStep rows steps → IsDerivation IsStep rows steps
derivation_from_exact rows steps derivation = record { steps_good = steps_from_exact rows steps derivation.steps_good; ends = derivation.ends }

pub verdict_refutes : (system : Polyhedron) (steps : List Step) (verdict : Result (Unit {0}) CheckFault) → IsVerdict IsStep system.rows steps verdict
    → OnOk verdict ((z : List ℤ) → ¬ Holds system z)
verdict_refutes system steps (Ok _) derivation = λ z. refutes system.rows steps z derivation
verdict_refutes system steps (Err fault) h = tt

pub exact_verdict_refutes : (system : Polyhedron) (steps : List Step) (verdict : Result (Unit {0}) CheckFault) → IsVerdict IsExactStep system.rows steps verdict
    → OnOk verdict ((z : List ℤ) → ¬ Holds system z)
exact_verdict_refutes system steps (Ok _) derivation = λ z. refutes system.rows steps z (derivation_from_exact system.rows steps derivation)
exact_verdict_refutes system steps (Err fault) h = tt
