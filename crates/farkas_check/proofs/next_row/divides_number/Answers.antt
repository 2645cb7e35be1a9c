use Rattle.std.proofs.Common.{◌∙◌, ap, ℤ, unsigned_abs}
use Rattle.std.proofs.lemmas.Int.{to_z-of_z}
use Rattle.std.specs.Int.{w128}
use Rattle.farkas_check.proofs.Divisors.{no_rest_iff_divides}
use Rattle.farkas_check.proofs.next_row.divides_number.Goals as goal

pub returns : goal.returns
returns c =
    no_rest_iff_divides c.args.divisor (unsigned_abs c.args.number) c.unsigned_abs.result
    (c.unsigned_abs.ensures.value ∙ ap (λ (z : ℤ). unsigned_abs z) (to_z-of_z w128 c.args.number c.ranges.number))
