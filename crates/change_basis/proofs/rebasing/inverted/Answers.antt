use Rattle.std.proofs.Common.{◌≡◌, ◌∙◌, ℕ, List, All, length, ap, sym, subst}
use Rattle.az_lin.specs.Affine.{HasWidth}
use Rattle.change_basis.proofs.BasisGiven.{narrow}
use Rattle.change_basis.proofs.Inversions.{inverse-width, inverse-rows}
use Rattle.change_basis.proofs.rebasing.inverted.Goals as goal

pub invert-requires-clause-narrow : goal.invert-requires-clause-narrow
invert-requires-clause-narrow c = narrow c.args.program.now c.requires.program c.args.target c.args.basis.now c.requires.free

pub rebased-requires-clause-undone : goal.rebased-requires-clause-undone
rebased-requires-clause-undone c =
    let inverse = c.in_ok-inverse.inverse in
    let params = length c.params.result.now in
    let is = c.in_ok-inverse.ensures.exact.3 in
    record {
      width = inverse-width params c.args.basis.now inverse is;
      rows = inverse-rows params c.args.basis.now inverse is;
      widths = subst (λ (w : ℕ). All (HasWidth w) inverse.rows) c.width.ensures.value c.width.ensures.widths;
      undone = λ ps k long sized. c.in_ok-inverse.ensures.undone ps k (long ∙ ap (λ (names : List (List ℕ)). length names) (sym c.params.ensures)) sized;
    }
