use Rattle.std.proofs.Common.{◌≡◌, ◌++◌, ◌∙◌, ap, ℤ, unsigned_abs, SFits, to_z, of_z, rules}
use Rattle.std.proofs.lemmas.Int.{to_z-of_z}
use Rattle.std.specs.Int.{w128}
use Rattle.farkas_check.proofs.Steps.{Names, good_from_tests, row_from_tests, bad_from_signs, bad_from_left, bad_from_right, bad_from_range, bad_from_division, unsigned_abs-positive}
use Rattle.farkas_check.proofs.Soundness.{quotient_width}
use Rattle.farkas_check.proofs.next_row.next_row.Goals as goal

pub returns-then-not-has_good_signs-clause-exact : goal.returns-then-not-has_good_signs-clause-exact
returns-then-not-has_good_signs-clause-exact c =
    bad_from_signs c.args.rule (c.args.system.now.rows ++ c.args.made.now) c.args.step.now c.has_good_signs.result c.has_good_signs.ensures c.if-not-has_good_signs.true

pub returns-in_default-clause-exact : goal.returns-in_default-clause-exact
returns-in_default-clause-exact c = bad_from_left c.args.rule (c.args.system.now.rows ++ c.args.made.now) c.args.step.now c.in_default.ensures.missing

pub returns-in_default-row_view-clause-exact : goal.returns-in_default-row_view-clause-exact
returns-in_default-row_view-clause-exact c = bad_from_right c.args.rule (c.args.system.now.rows ++ c.args.made.now) c.args.step.now c.in_default-row_view.ensures.missing

pub returns-in-Ok-None-clause-exact : goal.returns-in-Ok-None-clause-exact
returns-in-Ok-None-clause-exact c =
    let none = rw c.in-Ok-None.field-0-is at c.in-Ok-None.ensures.exact in
    let a_fits : SFits w128 c.args.step.now.a = search rules in
    let b_fits : SFits w128 c.args.step.now.b = search rules in
    let named : Names (c.args.system.now.rows ++ c.args.made.now) c.args.step.now (to_z w128 (of_z w128 c.args.step.now.a)) _ (to_z w128 (of_z w128 c.args.step.now.b)) _ = record {
      a_is = to_z-of_z w128 c.args.step.now.a a_fits;
      left_is = c.in-Some.ensures.value;
      b_is = to_z-of_z w128 c.args.step.now.b b_fits;
      right_is = c.in-Some-row_view.ensures.value;
    } in
    bad_from_range c.args.rule (c.args.system.now.rows ++ c.args.made.now) c.args.step.now _ _ _ _ named none

pub divides_row-requires : goal.divides_row-requires
divides_row-requires c =
    let g_fits : SFits w128 c.args.step.now.g = search rules in
    let signs = c.has_good_signs.ensures.0 c.if-not-has_good_signs.false in
    let size : c.unsigned_abs.result ≡ unsigned_abs c.args.step.now.g = c.unsigned_abs.ensures.value ∙ ap (λ (z : ℤ). unsigned_abs z) (to_z-of_z w128 c.args.step.now.g g_fits) in
    unsigned_abs-positive c.args.step.now.g c.unsigned_abs.result size signs.divisor

pub returns-then-not-divides_row-clause-exact : goal.returns-then-not-divides_row-clause-exact
returns-then-not-divides_row-clause-exact c =
    let g_fits : SFits w128 c.args.step.now.g = search rules in
    let size : c.unsigned_abs.result ≡ unsigned_abs c.args.step.now.g = c.unsigned_abs.ensures.value ∙ ap (λ (z : ℤ). unsigned_abs z) (to_z-of_z w128 c.args.step.now.g g_fits) in
    let some = rw c.in-Ok-Some.field-0-is at c.in-Ok-Some.ensures.exact in
    let a_fits : SFits w128 c.args.step.now.a = search rules in
    let b_fits : SFits w128 c.args.step.now.b = search rules in
    let named : Names (c.args.system.now.rows ++ c.args.made.now) c.args.step.now (to_z w128 (of_z w128 c.args.step.now.a)) _ (to_z w128 (of_z w128 c.args.step.now.b)) _ = record {
      a_is = to_z-of_z w128 c.args.step.now.a a_fits;
      left_is = c.in-Some.ensures.value;
      b_is = to_z-of_z w128 c.args.step.now.b b_fits;
      right_is = c.in-Some-row_view.ensures.value;
    } in
    bad_from_division c.args.rule (c.args.system.now.rows ++ c.args.made.now) c.args.step.now _ _ _ _ c.in-Ok-Some.sum c.divides_row.result c.unsigned_abs.result size
    named some.1 c.divides_row.ensures c.if-not-divides_row.true

pub divided-requires : goal.divided-requires
divided-requires c =
    let g_fits : SFits w128 c.args.step.now.g = search rules in
    let signs = c.has_good_signs.ensures.0 c.if-not-has_good_signs.false in
    rw (to_z-of_z w128 c.args.step.now.g g_fits) signs.divisor

pub returns-clause-exact : goal.returns-clause-exact
returns-clause-exact c =
    let g_fits : SFits w128 c.args.step.now.g = search rules in
    let signs = c.has_good_signs.ensures.0 c.if-not-has_good_signs.false in
    let size : c.unsigned_abs.result ≡ unsigned_abs c.args.step.now.g = c.unsigned_abs.ensures.value ∙ ap (λ (z : ℤ). unsigned_abs z) (to_z-of_z w128 c.args.step.now.g g_fits) in
    let some = rw c.in-Ok-Some.field-0-is at c.in-Ok-Some.ensures.exact in
    let a_fits : SFits w128 c.args.step.now.a = search rules in
    let b_fits : SFits w128 c.args.step.now.b = search rules in
    let named : Names (c.args.system.now.rows ++ c.args.made.now) c.args.step.now (to_z w128 (of_z w128 c.args.step.now.a)) _ (to_z w128 (of_z w128 c.args.step.now.b)) _ = record {
      a_is = to_z-of_z w128 c.args.step.now.a a_fits;
      left_is = c.in-Some.ensures.value;
      b_is = to_z-of_z w128 c.args.step.now.b b_fits;
      right_is = c.in-Some-row_view.ensures.value;
    } in (
      good_from_tests c.args.rule (c.args.system.now.rows ++ c.args.made.now) c.args.step.now _ _ _ _ c.in-Ok-Some.sum c.unsigned_abs.result size signs
          c.in-Some.ensures.found c.in-Some-row_view.ensures.found named some.0 some.1 (c.divides_row.ensures.0 c.if-not-divides_row.false),
      c.divided.ensures ∙ row_from_tests (c.args.system.now.rows ++ c.args.made.now) c.args.step.now _ _ _ _ c.in-Ok-Some.sum _ (to_z-of_z w128 c.args.step.now.g g_fits) named some.1,
    )

pub returns-clause-width : goal.returns-clause-width
returns-clause-width c =
    let some = rw c.in-Ok-Some.field-0-is at c.in-Ok-Some.ensures.exact in
    quotient_width c.args.system.now.width _ _ _ _ _ c.in-Ok-Some.sum c.divided.result c.in-Some.ensures.width c.in-Some-row_view.ensures.width some.1 c.divided.ensures
