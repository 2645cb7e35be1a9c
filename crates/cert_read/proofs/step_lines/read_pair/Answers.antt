use Rattle.std.proofs.Common.{sym, ◌∙◌}
use Rattle.std.specs.Fmt.{decimal}
use Rattle.line_fields.specs.Fields.{spaced}
use Rattle.cert_read.proofs.NumberFields.{integer_fields}
use Rattle.cert_read.proofs.step_lines.read_pair.Goals as goal

pub returns-in_default-spaced_natural : goal.returns-in_default-spaced_natural
returns-in_default-spaced_natural c = λ a i rest wide small same.
    let weight = c.in-Some.weight in
    let given = c.in-Some.ensures in
    let both = integer_fields weight.value a weight.rest.now (spaced (decimal i) rest) given.0 wide (sym given.1 ∙ same) in
    c.in_default-spaced_natural.ensures i rest small both.1
