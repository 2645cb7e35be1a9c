use Rattle.std.proofs.Common.{◌∙◌, to_z, of_z}
use Rattle.std.proofs.lemmas.Int.{to_z-of_z, fits_signed_from_abs}
use Rattle.std.specs.Int.{w128}
use Rattle.farkas_check.proofs.Steps.{rounded_test, exact_test, exact_test_fails}
use Rattle.farkas_check.proofs.next_row.divides_row.Goals as goal

pub returns-in-Rounded : goal.returns-in-Rounded
returns-in-Rounded c =
    rounded_test c.args.rule c.args.divisor c.args.row.now c.coefs.result.now c.divides_each.result c.in-Rounded.is c.coefs.ensures.value c.divides_each.ensures

pub returns-then-divides_each : goal.returns-then-divides_each
returns-then-divides_each c =
    let konst = c.konst.result in
    let same = to_z-of_z w128 konst (fits_signed_from_abs w128 konst c.konst.ensures.range) ∙ c.konst.ensures.value in
    exact_test c.args.rule c.args.divisor c.args.row.now c.coefs-in-Exact.result.now (to_z w128 (of_z w128 konst)) c.divides_each-in-Exact.result c.divides_number.result
    c.in-Exact.is c.coefs-in-Exact.ensures.value same c.if-divides_each.true c.divides_each-in-Exact.ensures c.divides_number.ensures

pub returns-else-divides_each : goal.returns-else-divides_each
returns-else-divides_each c =
    exact_test_fails c.args.rule c.args.divisor c.args.row.now c.coefs-in-Exact.result.now c.divides_each-in-Exact.result
    c.in-Exact.is c.coefs-in-Exact.ensures.value c.if-divides_each.false c.divides_each-in-Exact.ensures
