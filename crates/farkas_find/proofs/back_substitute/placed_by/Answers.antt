use Rattle.std.proofs.Common.{◌∙◌, ap, ℕ, length, sym, subst, SFits, rules}
use Rattle.std.specs.Int.{w128}
use Rattle.std.proofs.lemmas.Int.{to_z-of_z}
use Rattle.farkas_find.specs.BackSubstitution.{point_in, IsDenominator}
use Rattle.farkas_find.proofs.Bounds.{factor_is_positive}
use Rattle.farkas_find.proofs.Reduced.{placed_is, scaled_is_wide, scaled_denominator, length-placed_by}
use Rattle.az_lin.specs.declared.step.RatPoint.{RatPoint}
use Rattle.farkas_find.proofs.back_substitute.placed_by.Goals as goal

pub reduced-requires : goal.reduced-requires
reduced-requires c =
    let f_fits : SFits w128 c.factor_at-factor.result = search rules in
    let d_fits : SFits w128 c.args.found.den = search rules in
    let n_fits : SFits w128 c.in-Some.den = search rules in
    let got = simp to_z-of_z at c.in-Some.ensures in
    subst IsDenominator (sym (to_z-of_z w128 c.in-Some.den n_fits))
    (scaled_denominator c.args.bound.now c.args.found.den c.in-Some.den c.factor_at-factor.result c.factor_at-factor.ensures (factor_is_positive c.args.bound.now c.requires.range) c.requires.denominator got.0 got.1)

pub returns-clause-exact : goal.returns-clause-exact
returns-clause-exact c =
    let f_fits : SFits w128 c.factor_at-factor.result = search rules in
    let d_fits : SFits w128 c.args.found.den = search rules in
    let n_fits : SFits w128 c.in-Some.den = search rules in
    let p_fits : SFits w128 c.number_at.result = search rules in
    let got = simp to_z-of_z at c.in-Some.ensures in
    let many = simp to_z-of_z at c.in-Some-multiplied.ensures in
    let last = simp to_z-of_z at c.reduced.ensures.value in (
      scaled_is_wide c.args.bound.now (point_in c.args.found) c.factor_at-factor.result c.factor_at-factor.ensures many.0 got.0,
      placed_is c.args.column c.args.bound.now (point_in c.args.found) (point_in c.reduced.result) c.in-Some-multiplied.nums.items c.in-Some.den c.factor_at-factor.result c.number_at.result
          c.factor_at-factor.ensures c.number_at.ensures many.1 got.1 last,
    )

pub returns-clause-width : goal.returns-clause-width
returns-clause-width c =
    let as_long : RatPoint → ℕ = λ p. length p.nums in
    ap as_long (returns-clause-exact c).1 ∙ length-placed_by c.args.column c.args.bound.now (point_in c.args.found)
