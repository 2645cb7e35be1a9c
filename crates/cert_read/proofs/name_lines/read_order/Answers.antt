use Rattle.std.specs.Prelude.{codes}
use Rattle.std.specs.Fmt.{decimal}
use Rattle.cert_read.proofs.LineFields.{first_name}
use Rattle.cert_read.proofs.name_lines.read_order.Goals as goal

pub returns-in_default-variable : goal.returns-in_default-variable
returns-in_default-variable c = λ reader read is.
    let name = c.in-Some-spaced_word.name in
    let split = c.in-Some-spaced_word.ensures in
    let first = first_name c.args.program.now c.requires c.fields_are_one.ensures (codes "Order ") c.args.line.now c.in-Some.fields.now name.word.now name.rest.now (decimal read) reader c.in-Some.ensures split.0 split.1 is.own is.spelled in
    c.in_default-variable.ensures reader is.own first.0

pub returns-in_default-last_natural : goal.returns-in_default-last_natural
returns-in_default-last_natural c = λ reader read is.
    let name = c.in-Some-spaced_word.name in
    let split = c.in-Some-spaced_word.ensures in
    let first = first_name c.args.program.now c.requires c.fields_are_one.ensures (codes "Order ") c.args.line.now c.in-Some.fields.now name.word.now name.rest.now (decimal read) reader c.in-Some.ensures split.0 split.1 is.own is.spelled in
    c.in_default-last_natural.ensures read is.narrow first.1
