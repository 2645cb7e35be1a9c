use Rattle.std.proofs.Common.{◌≡◌, ◌∙◌, sym, subst, ℤ, pos, to_z, of_z, SFits, rules}
use Rattle.std.proofs.lemmas.Bool.{false≢true}
use Rattle.std.proofs.lemmas.Int.{to_z-of_z}
use Rattle.std.specs.Int.{w128, int_div_euclid, IsNonZero}
use Rattle.az_lin.specs.CommonDivisor.{gcd_of_all}
use Rattle.az_lin.specs.Inversion.{entry, shared, columns_of, numerators}
use Rattle.az_lin.proofs.Clearing.{word_is, nonzero_word}
use Rattle.az_lin.proofs.Fractions.{lowest_is, lowest_wide, pivots_here, numerators_next, products_in_whole, quotient_nonzero, factor_is, products_wide}
use Rattle.az_lin.proofs.fraction.numerators.Goals as goal

pub div_euclid-factor-requires-clause-nonzero : goal.div_euclid-factor-requires-clause-nonzero
div_euclid-factor-requires-clause-nonzero c =
    let row = c.index-rows-number.result in
    let i = c.rows.number in
    let from = c.args.part.now.from in
    let count = c.args.part.now.count in
    let s = c.shared_by-shared in
    let lowest = int_div_euclid (entry i row) (pos (shared (entry i row) (columns_of from count row))) in
    let q : c.div_euclid.result ≡ lowest = lowest_is i from count row c.coef.result s.result c.div_euclid.result c.coef.ensures.value c.coef.ensures.range s.ensures.value s.ensures.positive s.ensures.range c.div_euclid.ensures in
    let wide = lowest_wide i from count row c.coef.result s.result c.coef.ensures.value c.coef.ensures.range s.ensures.value s.ensures.positive in
    let pivots = pivots_here c.args.rows.now i row c.rows-test.true c.index-rows-number.is c.rows.invariant.pivots in
    subst (λ (z : ℤ). IsNonZero w128 (to_z w128 (of_z w128 z))) (sym q) (nonzero_word lowest (quotient_nonzero (entry i row) (gcd_of_all (columns_of from count row)) pivots.0) wide)

pub returns-then-not-branch-clause-exact : goal.returns-then-not-branch-clause-exact
returns-then-not-branch-clause-exact c = λ all.
    let row = c.index-rows-number.result in
    let rows = c.args.rows.now in
    let i = c.rows.number in
    let from = c.args.part.now.from in
    let count = c.args.part.now.count in
    let den = c.args.den.now in
    let s = c.shared_by-shared in
    let f = c.div_euclid-factor.result in
    let lowest = int_div_euclid (entry i row) (pos (shared (entry i row) (columns_of from count row))) in
    let q : c.div_euclid.result ≡ lowest = lowest_is i from count row c.coef.result s.result c.div_euclid.result c.coef.ensures.value c.coef.ensures.range s.ensures.value s.ensures.positive s.ensures.range c.div_euclid.ensures in
    let wide = lowest_wide i from count row c.coef.result s.result c.coef.ensures.value c.coef.ensures.range s.ensures.value s.ensures.positive in
    let factor : f ≡ int_div_euclid den lowest = factor_is den lowest c.div_euclid.result f c.requires.range wide q c.div_euclid-factor.ensures in
    let f_fits : SFits w128 f = search rules in
    let s_word : to_z w128 (of_z w128 s.result) ≡ s.result = word_is s.result s.ensures.range in
    let f_word : to_z w128 (of_z w128 f) ≡ f = to_z-of_z w128 f f_fits in
    let each = products_in_whole from count den rows i row (to_z w128 (of_z w128 s.result)) lowest (to_z w128 (of_z w128 f)) c.part_of.result.now c.rows.products.items (numerators from count den 0 rows)
    c.rows-test.true c.index-rows-number.is c.part_of.ensures.value (s_word ∙ s.ensures.value) (f_word ∙ factor) c.rows.invariant.whole all in
    false≢true (sym c.if-not-branch.true ∙ c.in_ok-push_products.ensures.fits.1 each)

pub rows-preserved : goal.rows-preserved
rows-preserved c =
    let row = c.index-rows-number.result in
    let rows = c.args.rows.now in
    let i = c.rows.number in
    let from = c.args.part.now.from in
    let count = c.args.part.now.count in
    let den = c.args.den.now in
    let s = c.shared_by-shared in
    let f = c.div_euclid-factor.result in
    let lowest = int_div_euclid (entry i row) (pos (shared (entry i row) (columns_of from count row))) in
    let q : c.div_euclid.result ≡ lowest = lowest_is i from count row c.coef.result s.result c.div_euclid.result c.coef.ensures.value c.coef.ensures.range s.ensures.value s.ensures.positive s.ensures.range c.div_euclid.ensures in
    let wide = lowest_wide i from count row c.coef.result s.result c.coef.ensures.value c.coef.ensures.range s.ensures.value s.ensures.positive in
    let factor : f ≡ int_div_euclid den lowest = factor_is den lowest c.div_euclid.result f c.requires.range wide q c.div_euclid-factor.ensures in
    let f_fits : SFits w128 f = search rules in
    let s_word : to_z w128 (of_z w128 s.result) ≡ s.result = word_is s.result s.ensures.range in
    let f_word : to_z w128 (of_z w128 f) ≡ f = to_z-of_z w128 f f_fits in
    let pushed = c.in_ok-push_products.ensures.value c.if-not-branch.false in
    record {
      whole = numerators_next from count den rows i row (to_z w128 (of_z w128 s.result)) lowest (to_z w128 (of_z w128 f)) c.part_of.result.now c.rows.products.items c.push_products.new.products.items (numerators from count den 0 rows)
          c.rows-test.true c.index-rows-number.is c.part_of.ensures.value (s_word ∙ s.ensures.value) (f_word ∙ factor) c.rows.invariant.whole pushed;
      pivots = (pivots_here rows i row c.rows-test.true c.index-rows-number.is c.rows.invariant.pivots).1;
      wide = products_wide (to_z w128 (of_z w128 s.result)) (to_z w128 (of_z w128 f)) c.part_of.result.now c.rows.products.items c.push_products.new.products.items c.rows.invariant.wide (c.in_ok-push_products.ensures.fits.0 c.if-not-branch.false) pushed;
    }
