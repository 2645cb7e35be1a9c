use Rattle.std.proofs.Common.{sym, ◌∙◌}
use Rattle.std.specs.Fmt.{decimal, signed_decimal}
use Rattle.line_fields.specs.Fields.{spaced}
use Rattle.cert_read.proofs.LineFields.{pair_fields}
use Rattle.cert_read.proofs.step_lines.read_step.Goals as goal

pub returns-in_default-read_pair : goal.returns-in_default-read_pair
returns-in_default-read_pair c = λ step is.
    let first = c.in-Some.first in
    let given = c.in-Some.ensures in
    let fits = is.fits in
    let behind = pair_fields first.weight step.a first.row step.i first.rest.now (spaced (signed_decimal step.b) (spaced (decimal step.j) (signed_decimal step.g))) given.0 given.1 fits.a fits.i (sym given.2 ∙ is.spelled) in
    c.in_default-read_pair.ensures step.b step.j (signed_decimal step.g) fits.b fits.j behind

pub returns-in_default-last_integer : goal.returns-in_default-last_integer
returns-in_default-last_integer c = λ step is.
    let first = c.in-Some.first in
    let given = c.in-Some.ensures in
    let fits = is.fits in
    let behind = pair_fields first.weight step.a first.row step.i first.rest.now (spaced (signed_decimal step.b) (spaced (decimal step.j) (signed_decimal step.g))) given.0 given.1 fits.a fits.i (sym given.2 ∙ is.spelled) in
    let second = c.in-Some-read_pair.second in
    let next = c.in-Some-read_pair.ensures in
    let last = pair_fields second.weight step.b second.row step.j second.rest.now (signed_decimal step.g) next.0 next.1 fits.b fits.j (sym next.2 ∙ behind) in
    c.in_default-last_integer.ensures step.g fits.g last
