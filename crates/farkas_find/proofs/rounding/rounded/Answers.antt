use Rattle.std.proofs.Common.{◌≡◌, sym, ◌∙◌, ap, FitsSigned}
use Rattle.std.specs.Int.{w128}
use Rattle.std.proofs.lemmas.Int.{to_z-of_z, fits_signed_from_abs}
use Rattle.az_lin.specs.Combination.{quotient}
use Rattle.farkas_find.proofs.Rounded.{rounded-yes, rounded-no}
use Rattle.farkas_find.proofs.rounding.rounded.Goals as goal

pub returns-in-Some-clause-row : goal.returns-in-Some-clause-row
returns-in-Some-clause-row c =
    let fits : FitsSigned w128 c.in-Some.divisor = fits_signed_from_abs w128 c.in-Some.divisor c.in-Some.ensures.2 in
    let quotient_is : c.divided.result ≡ quotient c.args.row c.in-Some.divisor = simp to_z-of_z at c.divided.ensures in
    quotient_is ∙ ap (quotient c.args.row) c.in-Some.ensures.1 ∙ sym (rounded-yes c.args.row c.in-Some.ensures.0)

pub returns-in-None-clause-row : goal.returns-in-None-clause-row
returns-in-None-clause-row c = sym (rounded-no c.args.row c.in-None.ensures)
