use Rattle.std.proofs.Common.{◌≡◌, ◌+◌, ◌<◌, ◌≤◌, ◌^◌, ◌∙◌, sym, ap, subst, pos, unsigned_abs, drop, arith}
use Rattle.std.specs.Int.{int_div_euclid}
use Rattle.az_lin.specs.Inversion.{entry, shared, columns_of, common_multiple, denominator_from}
use Rattle.az_lin.proofs.Fractions.{lowest_is, lowest_wide, lowest_magnitude, pivots_here, denominator_next, denominator_low, multiple_low, quotient_nonzero}
use Rattle.az_lin.specs.CommonDivisor.{gcd_of_all}
use Rattle.az_lin.proofs.fraction.denominator.Goals as goal

pub returns-in-None : goal.returns-in-None
returns-in-None c =
    let row = c.index-rows-number.result in
    let rows = c.args.rows.now in
    let i = c.rows.number in
    let known = c.rows.known in
    let from = c.args.part.now.from in
    let count = c.args.part.now.count in
    let u = c.unsigned_abs.result in
    let lowest = int_div_euclid (entry i row) (pos (shared (entry i row) (columns_of from count row))) in
    let q = lowest_is i from count row c.coef.result c.shared_by.result c.div_euclid-own.result c.coef.ensures.value c.coef.ensures.range c.shared_by.ensures.value c.shared_by.ensures.positive c.shared_by.ensures.range c.div_euclid-own.ensures in
    let wide = lowest_wide i from count row c.coef.result c.shared_by.result c.coef.ensures.value c.coef.ensures.range c.shared_by.ensures.value c.shared_by.ensures.positive in
    let own : u ≡ unsigned_abs lowest = lowest_magnitude c.div_euclid-own.result lowest u q wide c.unsigned_abs.ensures.value in
    let next = denominator_next from count known rows i u row c.rows-test.true c.index-rows-number.is own in
    let pivots = pivots_here rows i row c.rows-test.true c.index-rows-number.is c.rows.invariant.pivots in
    let some : 0 < u = subst (λ n. 0 < n) (sym own) (quotient_nonzero (entry i row) (gcd_of_all (columns_of from count row)) pivots.0) in
    let first : known ≤ common_multiple known u = multiple_low known u c.rows.invariant.positive some in
    let low = denominator_low from count (common_multiple known u) (i + 1) (drop (i + 1) rows) pivots.1 (omega (arith, first, c.rows.invariant.positive)) in
    let is : denominator_from from count (common_multiple known u) (i + 1) (drop (i + 1) rows) ≡ denominator_from from count 1 0 rows = sym next ∙ c.rows.invariant.whole in
    record { exact = λ fits. c.in-None.ensures (omega (arith, low, is, fits)) }

pub rows-preserved : goal.rows-preserved
rows-preserved c =
    let row = c.index-rows-number.result in
    let rows = c.args.rows.now in
    let i = c.rows.number in
    let known = c.rows.known in
    let from = c.args.part.now.from in
    let count = c.args.part.now.count in
    let u = c.unsigned_abs.result in
    let lowest = int_div_euclid (entry i row) (pos (shared (entry i row) (columns_of from count row))) in
    let q = lowest_is i from count row c.coef.result c.shared_by.result c.div_euclid-own.result c.coef.ensures.value c.coef.ensures.range c.shared_by.ensures.value c.shared_by.ensures.positive c.shared_by.ensures.range c.div_euclid-own.ensures in
    let wide = lowest_wide i from count row c.coef.result c.shared_by.result c.coef.ensures.value c.coef.ensures.range c.shared_by.ensures.value c.shared_by.ensures.positive in
    let own : u ≡ unsigned_abs lowest = lowest_magnitude c.div_euclid-own.result lowest u q wide c.unsigned_abs.ensures.value in
    let next = denominator_next from count known rows i u row c.rows-test.true c.index-rows-number.is own in
    let pivots = pivots_here rows i row c.rows-test.true c.index-rows-number.is c.rows.invariant.pivots in
    let some : 0 < u = subst (λ n. 0 < n) (sym own) (quotient_nonzero (entry i row) (gcd_of_all (columns_of from count row)) pivots.0) in
    let first : known ≤ common_multiple known u = multiple_low known u c.rows.invariant.positive some in
    let got = c.in-Some.ensures.1 in
    record {
      whole = ap (λ k. denominator_from from count k (i + 1) (drop (i + 1) rows)) got ∙ sym next ∙ c.rows.invariant.whole;
      pivots = pivots.1;
      positive = omega (arith, got, first, c.rows.invariant.positive);
      wide = subst (λ k. k < 2 ^ 127) (sym got) c.in-Some.ensures.0;
    }
