use Rattle.std.proofs.Common.{◌≡◌, ◌≤◌, ◌<◌, ◌^◌, pos, subst, ap, sym, ◌∙◌, rules}
use Rattle.std.proofs.lemmas.Int.{fits_signed_from_abs}
use Rattle.std.specs.Int.{w128}
use Rattle.az_lin.specs.CommonDivisor.{gcd_of_all}
use Rattle.az_lin.proofs.Clearing.{gcd_of_all-wide, primitive_already}
use Rattle.az_lin.proofs.tableau.primitive.Goals as goal

pub returns-in_default : goal.returns-in_default
returns-in_default c =
    let is : c.gcd_all.result ≡ gcd_of_all c.args.row.coefs = c.gcd_all.ensures.value ∙ ap gcd_of_all c.coefs.ensures.value in
    let small : gcd_of_all c.args.row.coefs ≤ 1 = search rules in
    primitive_already c.args.row small

pub returns-in_default-2 : goal.returns-in_default-2
returns-in_default-2 c =
    let wide : c.gcd_all.result < 2 ^ 127 = subst (λ n. n < 2 ^ 127) (sym c.gcd_all.ensures.value) (gcd_of_all-wide c.coefs.result.now c.coefs.ensures.range) in
    absurd (c.in_default.ensures (fits_signed_from_abs w128 (pos c.gcd_all.result) wide))
