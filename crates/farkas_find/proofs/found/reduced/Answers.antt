use Rattle.std.proofs.Common.{◌≡◌, ◌<◌, ◌^◌, ◌∙◌, ap, sym, subst, pos, ◌<ℤ◌, ◌∷◌, to_z, of_z, SFits, rules}
use Rattle.std.specs.Int.{w128, int_div_euclid}
use Rattle.std.proofs.lemmas.Int.{to_z-of_z, to_z_pos, fits_signed_from_abs}
use Rattle.az_lin.specs.CommonDivisor.{gcd_of_all}
use Rattle.farkas_find.specs.BackSubstitution.{IsDenominator}
use Rattle.farkas_find.proofs.Reduced.{common_is, common_is_positive, common_is_small, positive_whole, denominator_left, reduced_is, reduced_by_one}
use Rattle.farkas_find.proofs.found.reduced.Goals as goal

pub overflow_cast-common : goal.overflow_cast-common
overflow_cast-common c =
    let fits : SFits w128 c.args.found.den = search rules in
    let is : c.gcd.result ≡ gcd_of_all (c.args.found.den ∷ c.args.found.nums.items) =
    common_is c.gcd.result c.unsigned_abs.result c.gcd_all.result c.args.found.den c.as_slice.result.now c.args.found.nums.items c.gcd.ensures.value c.unsigned_abs.ensures.value fits c.gcd_all.ensures.value c.as_slice.ensures.value in
    let small : c.gcd.result < 2 ^ 127 = rw is (common_is_small c.args.found.den c.args.found.nums.items c.requires) in
    fits_signed_from_abs w128 (pos c.gcd.result) small

pub returns-then-common-eq1-clause-value : goal.returns-then-common-eq1-clause-value
returns-then-common-eq1-clause-value c =
    let fits : SFits w128 c.args.found.den = search rules in
    let is : c.gcd.result ≡ gcd_of_all (c.args.found.den ∷ c.args.found.nums.items) =
    common_is c.gcd.result c.unsigned_abs.result c.gcd_all.result c.args.found.den c.as_slice.result.now c.args.found.nums.items c.gcd.ensures.value c.unsigned_abs.ensures.value fits c.gcd_all.ensures.value c.as_slice.ensures.value in
    reduced_by_one c.args.found.nums.items c.args.found.den (sym is ∙ c.if-common-eq1.true)

pub divided-requires : goal.divided-requires
divided-requires c =
    let fits : SFits w128 c.args.found.den = search rules in
    let is : c.gcd.result ≡ gcd_of_all (c.args.found.den ∷ c.args.found.nums.items) =
    common_is c.gcd.result c.unsigned_abs.result c.gcd_all.result c.args.found.den c.as_slice.result.now c.args.found.nums.items c.gcd.ensures.value c.unsigned_abs.ensures.value fits c.gcd_all.ensures.value c.as_slice.ensures.value in
    let small : c.gcd.result < 2 ^ 127 = rw is (common_is_small c.args.found.den c.args.found.nums.items c.requires) in
    let above : 0 < c.gcd.result = rw is (common_is_positive c.args.found.den c.args.found.nums.items c.requires.0) in
    rw (to_z_pos w128 c.gcd.result small) (positive_whole c.gcd.result above)

pub div_euclid-requires-clause-nonzero : goal.div_euclid-requires-clause-nonzero
div_euclid-requires-clause-nonzero c =
    let fits : SFits w128 c.args.found.den = search rules in
    let is : c.gcd.result ≡ gcd_of_all (c.args.found.den ∷ c.args.found.nums.items) =
    common_is c.gcd.result c.unsigned_abs.result c.gcd_all.result c.args.found.den c.as_slice.result.now c.args.found.nums.items c.gcd.ensures.value c.unsigned_abs.ensures.value fits c.gcd_all.ensures.value c.as_slice.ensures.value in
    let small : c.gcd.result < 2 ^ 127 = rw is (common_is_small c.args.found.den c.args.found.nums.items c.requires) in
    let above : 0 < c.gcd.result = rw is (common_is_positive c.args.found.den c.args.found.nums.items c.requires.0) in
    let positive : pos 0 <ℤ to_z w128 c.gcd.result = rw (to_z_pos w128 c.gcd.result small) (positive_whole c.gcd.result above) in
    search rules

pub returns-clause-value : goal.returns-clause-value
returns-clause-value c =
    let fits : SFits w128 c.args.found.den = search rules in
    let q_fits : SFits w128 c.div_euclid.result = search rules in
    let is : c.gcd.result ≡ gcd_of_all (c.args.found.den ∷ c.args.found.nums.items) =
    common_is c.gcd.result c.unsigned_abs.result c.gcd_all.result c.args.found.den c.as_slice.result.now c.args.found.nums.items c.gcd.ensures.value c.unsigned_abs.ensures.value fits c.gcd_all.ensures.value c.as_slice.ensures.value in
    let small : c.gcd.result < 2 ^ 127 = rw is (common_is_small c.args.found.den c.args.found.nums.items c.requires) in
    let left = simp to_z-of_z at c.div_euclid.ensures in
    reduced_is c.args.found.nums.items c.divided.result.items c.args.found.den (to_z w128 (of_z w128 c.div_euclid.result)) (to_z w128 c.gcd.result)
    (to_z_pos w128 c.gcd.result small ∙ ap pos is) c.divided.ensures (to_z-of_z w128 c.div_euclid.result q_fits ∙ left)

pub returns-clause-denominator : goal.returns-clause-denominator
returns-clause-denominator c =
    let fits : SFits w128 c.args.found.den = search rules in
    let q_fits : SFits w128 c.div_euclid.result = search rules in
    let is : c.gcd.result ≡ gcd_of_all (c.args.found.den ∷ c.args.found.nums.items) =
    common_is c.gcd.result c.unsigned_abs.result c.gcd_all.result c.args.found.den c.as_slice.result.now c.args.found.nums.items c.gcd.ensures.value c.unsigned_abs.ensures.value fits c.gcd_all.ensures.value c.as_slice.ensures.value in
    let small : c.gcd.result < 2 ^ 127 = rw is (common_is_small c.args.found.den c.args.found.nums.items c.requires) in
    let left = simp to_z-of_z at c.div_euclid.ensures in
    let same : to_z w128 (of_z w128 c.div_euclid.result) ≡ int_div_euclid c.args.found.den (pos (gcd_of_all (c.args.found.den ∷ c.args.found.nums.items))) =
    to_z-of_z w128 c.div_euclid.result q_fits ∙ left ∙ ap (int_div_euclid c.args.found.den) (to_z_pos w128 c.gcd.result small ∙ ap pos is) in
    subst IsDenominator (sym same) (denominator_left c.args.found.den c.args.found.nums.items c.requires)
