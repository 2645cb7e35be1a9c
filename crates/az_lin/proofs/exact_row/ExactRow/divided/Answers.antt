use Rattle.std.proofs.Common.{◌≡◌, ◌∙◌, sym, ap, ℤ, map, to_z, of_z, SFits, rules}
use Rattle.std.proofs.lemmas.Int.{to_z-of_z, fits_signed_from_abs}
use Rattle.std.specs.Int.{w128, int_div_euclid}
use Rattle.az_lin.proofs.WideSums.{wide_after_division, quotient_by_one}
use Rattle.az_lin.proofs.exact_row.ExactRow.divided.Goals as goal

pub invariant_of-result-2 : goal.invariant_of-result-2
invariant_of-result-2 c =
    let d = c.args.divisor in
    let konst = c.self.inside.konst in
    let whole : to_z w128 (of_z w128 d) ≡ d = to_z-of_z w128 d c.ranges.divisor in
    let konst_is = to_z-of_z w128 konst (fits_signed_from_abs w128 konst c.self.invariant.constant) in
    let fits : SFits w128 c.div_euclid.result = search rules in
    let is : c.divide_each.new.numbers ≡ map (λ (coef : ℤ). int_div_euclid coef (to_z w128 (of_z w128 d))) c.as_mut_slice.result.now = c.divide_each.ensures in
    let is_map : c.divide_each.new.numbers ≡ map (λ (coef : ℤ). int_div_euclid coef d) c.as_mut_slice.result.now =
    is ∙ ap (λ (e : ℤ). map (λ (coef : ℤ). int_div_euclid coef e) c.as_mut_slice.result.now) whole in
    let floor : to_z w128 (of_z w128 c.div_euclid.result) ≡ int_div_euclid konst d =
    to_z-of_z w128 c.div_euclid.result fits ∙ c.div_euclid.ensures ∙ ap (λ (z : ℤ). int_div_euclid z (to_z w128 (of_z w128 d))) konst_is ∙ ap (int_div_euclid konst) whole in
    wide_after_division c.self.inside.coefs.items c.as_mut_slice.result.now c.divide_each.new.numbers konst (to_z w128 (of_z w128 c.div_euclid.result)) d
    c.requires c.self.invariant c.as_mut_slice.ensures.value is_map floor

pub returns-then-divisor-eq1 : goal.returns-then-divisor-eq1
returns-then-divisor-eq1 c =
    c.self.view_is ∙ quotient_by_one c.args.self c.args.divisor (sym (to_z-of_z w128 c.args.divisor c.ranges.divisor) ∙ ap (to_z w128) c.if-divisor-eq1.true)
