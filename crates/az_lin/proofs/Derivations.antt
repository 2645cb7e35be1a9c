-- The rows that the steps of a derivation make.
use Rattle.std.proofs.Common.{◌≡◌, ◌+◌, List, [], ◌∷◌, ◌++◌, length, ◌∙◌, arith, length-append}
use Rattle.az_lin.specs.Affine.{Affine}
use Rattle.az_lin.specs.Derivation.{row_of, rows_after}
use Rattle.az_lin.specs.declared.step.Step.{Step}

-- each step makes one row
pub length-rows_after : (rows : List Affine) (steps : List Step) → length (rows_after rows steps) ≡ length rows + length steps
length-rows_after rows [] = omega arith
length-rows_after rows (step ∷ steps) = length-rows_after (rows ++ row_of rows step ∷ []) steps ∙ omega (arith, length-append rows (row_of rows step ∷ []))
