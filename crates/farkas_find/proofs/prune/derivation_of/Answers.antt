use Rattle.std.proofs.Common.{◌≡◌, ◌<◌, ◌+◌, length, ◌∙◌, ℕ, List}
use Rattle.az_lin.specs.Affine.{Affine}
use Rattle.az_lin.specs.Derivation.{IsStep, IsDerivation}
use Rattle.az_lin.specs.declared.step.Step.{Step}
use Rattle.farkas_find.specs.Needed.{derivation_of}
use Rattle.farkas_find.proofs.Pruning.{derivation_of-derives}
use Rattle.farkas_find.proofs.prune.derivation_of.Goals as goal

derives_from : (rows : List Affine) (given target : ℕ) (steps made : List Step) → length rows ≡ given → made ≡ derivation_of target given steps
    → IsDerivation IsStep rows (derivation_of target (length rows) steps) → IsDerivation IsStep rows made
derives_from rows given target steps made count is derives = rw (is, ← count) derives

pub returns-clause-valid : goal.returns-clause-valid
returns-clause-valid c = λ rows count wide good contradiction.
    let inside : c.args.target < length rows + length c.args.steps.now = rw count c.requires.target in
    let is : c.from_vec.result ≡ derivation_of c.args.target c.args.given c.args.steps.now = c.from_vec.ensures ∙ c.in_ok-steps.ensures in
    derives_from rows c.args.given c.args.target c.args.steps.now c.from_vec.result count is (derivation_of-derives rows c.args.target c.args.steps.now wide inside good contradiction)
