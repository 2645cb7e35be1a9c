use Rattle.std.proofs.Common.{◌≡◌, ◌<◌, ◌^◌, arith, pos, ap, ◌∙◌, true}
use Rattle.std.specs.Int.{w128}
use Rattle.std.proofs.lemmas.Grind.{common_steps}
use Rattle.std.proofs.lemmas.Int.{fits_signed_from_abs, to_z_pos}
use Rattle.az_lin.specs.CommonDivisor.{gcd_of_all}
use Rattle.farkas_find.specs.Tidying.{is_rounded}
use Rattle.farkas_find.proofs.Divisor.{gcd_of_all-wide}
use Rattle.farkas_find.proofs.rounding.divisor.Goals as goal

pub overflow_cast-result : goal.overflow_cast-result
overflow_cast-result c =
    let wide : gcd_of_all c.coefs.result.now < 2 ^ 127 = gcd_of_all-wide c.coefs.result.now c.coefs.ensures.range in
    fits_signed_from_abs w128 (pos c.gcd_all-divisor.result) (omega (arith, c.gcd_all-divisor.ensures.value))

pub returns : goal.returns
returns c =
    let wide : gcd_of_all c.coefs.result.now < 2 ^ 127 = gcd_of_all-wide c.coefs.result.now c.coefs.ensures.range in
    let same : c.gcd_all-divisor.result ≡ gcd_of_all c.args.row.now.coefs = rw (← c.coefs.ensures.value) c.gcd_all-divisor.ensures.value in
    let above : is_rounded c.args.row.now ≡ true = grind (arith, common_steps) in
    let small : c.gcd_all-divisor.result < 2 ^ 127 = omega (arith, c.gcd_all-divisor.ensures.value) in
    (above, to_z_pos w128 c.gcd_all-divisor.result small ∙ ap pos same, rw (to_z_pos w128 c.gcd_all-divisor.result small) small)
