use Rattle.std.proofs.Common.{◌≡◌, ◌*ℤ◌, ◌∙◌, ℤ, pos, sym, subst, get_or, SFits, to_z, of_z, rules}
use Rattle.std.proofs.lemmas.Bool.{false≢true}
use Rattle.std.proofs.lemmas.Int.{to_z-of_z}
use Rattle.std.proofs.lemmas.List.Elements.{All-get_or}
use Rattle.std.specs.Int.{w128, int_div_euclid}
use Rattle.az_lin.specs.Affine.{IsWide}
use Rattle.az_lin.proofs.Clearing.{All-take_more, product_in_words}
use Rattle.az_lin.proofs.Fractions.{prefix_more}
use Rattle.az_lin.proofs.fraction.push_products.Goals as goal

pub returns-in-None-clause-fits : goal.returns-in-None-clause-fits
returns-in-None-clause-fits c =
    let d = c.args.divisor.now in
    let q = c.args.factor.now in
    let i = c.numbers.number-index in
    let x = get_or c.args.numbers.now i (pos 0) in
    let x_fits : SFits w128 x = search rules in
    let d_fits : SFits w128 d = search rules in
    let q_fits : SFits w128 q = search rules in
    let r_fits : SFits w128 c.div_euclid.result = search rules in
    let same : to_z w128 (of_z w128 c.div_euclid.result) *ℤ to_z w128 (of_z w128 q) ≡ int_div_euclid x d *ℤ q =
    product_in_words x d q c.div_euclid.result x_fits d_fits q_fits r_fits c.div_euclid.ensures in
    let W : ℤ → Type 0 = λ y. IsWide (int_div_euclid y d *ℤ q) in
    (λ h. absurd (false≢true h), λ all. absurd (c.in-None.ensures (subst IsWide (sym same) (All-get_or W c.args.numbers.now i (pos 0) c.numbers-test.true all))))

pub numbers-preserved : goal.numbers-preserved
numbers-preserved c =
    let d = c.args.divisor.now in
    let q = c.args.factor.now in
    let i = c.numbers.number-index in
    let x = get_or c.args.numbers.now i (pos 0) in
    let x_fits : SFits w128 x = search rules in
    let d_fits : SFits w128 d = search rules in
    let q_fits : SFits w128 q = search rules in
    let r_fits : SFits w128 c.div_euclid.result = search rules in
    let p_fits : SFits w128 c.in-Some.product = search rules in
    let same : to_z w128 (of_z w128 c.div_euclid.result) *ℤ to_z w128 (of_z w128 q) ≡ int_div_euclid x d *ℤ q =
    product_in_words x d q c.div_euclid.result x_fits d_fits q_fits r_fits c.div_euclid.ensures in
    let f : ℤ → ℤ = λ y. int_div_euclid y d *ℤ q in
    let W : ℤ → Type 0 = λ y. IsWide (int_div_euclid y d *ℤ q) in
    let got : to_z w128 (of_z w128 c.in-Some.product) ≡ f x = to_z-of_z w128 c.in-Some.product p_fits ∙ c.in-Some.ensures.1 ∙ same in
    record {
      so_far = prefix_more f c.args.numbers.now i (pos 0) (to_z w128 (of_z w128 c.in-Some.product)) c.args.products.now.items c.numbers.products.items c.push.new.self.items
          c.numbers-test.true c.numbers.invariant.so_far got c.in_ok-push-in-Some.ensures.items;
      wide = All-take_more W c.args.numbers.now i (pos 0) c.numbers-test.true c.numbers.invariant.wide (subst IsWide same c.in-Some.ensures.0);
    }
