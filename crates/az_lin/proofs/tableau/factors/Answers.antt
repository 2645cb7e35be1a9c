use Rattle.std.proofs.Common.{◌≡◌, pos, ◌-ℤ◌, ◌<ℤ◌, ap, unsigned_abs, ◌∙◌, subst, to_z, of_z, ℤ}
use Rattle.std.specs.Int.{w128, int_div_euclid}
use Rattle.az_lin.specs.Affine.{IsWide}
use Rattle.az_lin.specs.CommonDivisor.{gcd_of}
use Rattle.az_lin.specs.Inversion.{row_factor, common}
use Rattle.az_lin.proofs.Clearing.{word_is, negated_word, quotient_word, quotient_wide, positive_nonzero}
use Rattle.az_lin.proofs.tableau.factors.Goals as goal

pub div_euclid-requires-clause-nonzero : goal.div_euclid-requires-clause-nonzero
div_euclid-requires-clause-nonzero c = positive_nonzero c.divisor-divisor.result c.divisor-divisor.ensures.positive c.divisor-divisor.ensures.range

pub div_euclid-requires-2-clause-nonzero : goal.div_euclid-requires-2-clause-nonzero
div_euclid-requires-2-clause-nonzero c = positive_nonzero c.divisor-divisor.result c.divisor-divisor.ensures.positive c.divisor-divisor.ensures.range

common_is : (p e d : ℤ) → IsWide e → d ≡ pos (gcd_of (unsigned_abs p) (unsigned_abs (to_z w128 (of_z w128 e)))) → d ≡ common p e
common_is p e d wide h = h ∙ ap (λ (z : ℤ). pos (gcd_of (unsigned_abs p) (unsigned_abs z))) (word_is e wide)

pub returns-clause-row : goal.returns-clause-row
returns-clause-row c =
    let p = c.args.pivot.now in
    let e = c.args.entry.now in
    let same : c.divisor-divisor.result ≡ common p e = common_is p e c.divisor-divisor.result c.requires.wide_entry (c.divisor-divisor.ensures.value ∙ ap (λ n. pos (gcd_of (unsigned_abs p) n)) c.unsigned_abs.ensures.value) in
    let q : c.div_euclid.result ≡ row_factor p e = quotient_word c.div_euclid.result p c.divisor-divisor.result (common p e) c.divisor-divisor.ensures.positive c.requires.wide_pivot c.divisor-divisor.ensures.range same c.div_euclid.ensures in
    let wide : IsWide (row_factor p e) = quotient_wide p (common p e) (subst (λ (d : ℤ). pos 0 <ℤ d) same c.divisor-divisor.ensures.positive) c.requires.wide_pivot in
    ap (λ (z : ℤ). to_z w128 (of_z w128 z)) q ∙ word_is (row_factor p e) wide

pub returns-clause-pivot_row : goal.returns-clause-pivot_row
returns-clause-pivot_row c =
    let p = c.args.pivot.now in
    let e = c.args.entry.now in
    let same : c.divisor-divisor.result ≡ common p e = common_is p e c.divisor-divisor.result c.requires.wide_entry (c.divisor-divisor.ensures.value ∙ ap (λ n. pos (gcd_of (unsigned_abs p) n)) c.unsigned_abs.ensures.value) in
    let q : c.div_euclid-2.result ≡ int_div_euclid e (common p e) = quotient_word c.div_euclid-2.result e c.divisor-divisor.result (common p e) c.divisor-divisor.ensures.positive c.requires.wide_entry c.divisor-divisor.ensures.range same c.div_euclid-2.ensures in
    let wide : IsWide (int_div_euclid e (common p e)) = quotient_wide e (common p e) (subst (λ (d : ℤ). pos 0 <ℤ d) same c.divisor-divisor.ensures.positive) c.requires.wide_entry in
    ap (λ (z : ℤ). to_z w128 (of_z w128 (pos 0 -ℤ to_z w128 (of_z w128 z)))) q ∙ negated_word (int_div_euclid e (common p e)) wide
