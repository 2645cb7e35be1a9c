use Rattle.std.proofs.Common.{◌≡◌, ◌<◌, ◌≤◌, ◌^◌, pos, unsigned_abs, arith, ap, ◌∙◌, sym, subst}
use Rattle.std.proofs.lemmas.Int.{ints, to_z_pos, fits_signed_from_abs}
use Rattle.std.specs.Int.{w128}
use Rattle.az_lin.specs.CommonDivisor.{gcd_of}
use Rattle.az_lin.proofs.Clearing.{word_is, gcd_of-positive, gcd_of-le}
use Rattle.az_lin.proofs.tableau.divisor.Goals as goal

is : (c : goal.After-gcd-shared) → c.gcd-shared.result ≡ gcd_of (unsigned_abs c.args.number.now) c.args.magnitude
is c = c.gcd-shared.ensures.value ∙ ap (λ n. gcd_of n c.args.magnitude) (c.unsigned_abs.ensures.value ∙ ap unsigned_abs (word_is c.args.number.now c.requires.wide))

below : (c : goal.After-gcd-shared) → c.gcd-shared.result < 2 ^ 127
below c =
    let n = unsigned_abs c.args.number.now in
    let low : gcd_of n c.args.magnitude ≤ n = gcd_of-le n c.args.magnitude c.requires.some in
    let wide : n < 2 ^ 127 = c.requires.wide in
    omega (arith, is c)

positive : (c : goal.After-gcd-shared) → 0 < c.gcd-shared.result
positive c = subst (λ n. 0 < n) (sym (is c)) (gcd_of-positive (unsigned_abs c.args.number.now) c.args.magnitude c.requires.some)

pub overflow_cast-result : goal.overflow_cast-result
overflow_cast-result c = fits_signed_from_abs w128 (pos c.gcd-shared.result) (below c)

pub returns-clause-value : goal.returns-clause-value
returns-clause-value c = to_z_pos w128 c.gcd-shared.result (below c) ∙ ap pos (is c)

pub returns-clause-positive : goal.returns-clause-positive
returns-clause-positive c =
    let some : 0 < c.gcd-shared.result = positive c in
    rw (to_z_pos w128 c.gcd-shared.result (below c)) (omega (arith, ints, some))

pub returns-clause-range : goal.returns-clause-range
returns-clause-range c = rw (to_z_pos w128 c.gcd-shared.result (below c)) (below c)
