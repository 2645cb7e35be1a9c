-- A valid derivation has no first bad step.
use Rattle.std.proofs.Common.{ℕ, zero, suc, ◌<◌, arith, List, [], ◌∷◌, ◌++◌, length, take, slice_index_or, inl, inr}
use Rattle.az_lin.specs.Affine.{Affine}
use Rattle.az_lin.specs.Derivation.{row_of, rows_after, AllSteps, IsStep, IsDerivation, IsFirstBad}
use Rattle.az_lin.specs.declared.step.Step.{Step}

good_at : (rows : List Affine) (steps : List Step) (number : ℕ) (d : Step) → number < length steps → AllSteps IsStep rows steps
    → IsStep (rows_after rows (take number steps)) (slice_index_or steps number d)
good_at rows [] number d below all = absurd (omega arith)
good_at rows (step ∷ steps) zero d below all = all.0
good_at rows (step ∷ steps) (suc n) d below all = good_at (rows ++ row_of rows step ∷ []) steps n d (omega arith) all.1

pub no_bad_step : (rows : List Affine) (steps : List Step) (number : ℕ) (d : Step) → IsDerivation IsStep rows steps → ¬ IsFirstBad IsStep rows steps number
no_bad_step rows steps number d valid first =
    elim first.bad as (λ _. ⊥) [
      | inl here ↦ here.1 d (good_at rows steps number d here.0 valid.steps_good)
      | inr end ↦ end.1 valid.ends
    ]
