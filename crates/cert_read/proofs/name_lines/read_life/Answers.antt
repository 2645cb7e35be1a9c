use Rattle.std.proofs.Common.{sym, ◌∙◌}
use Rattle.std.specs.Prelude.{codes}
use Rattle.std.specs.Fmt.{decimal}
use Rattle.cert_read.proofs.LineFields.{first_name}
use Rattle.line_fields.specs.Fields.{spaced}
use Rattle.cert_read.proofs.NumberFields.{natural_fields}
use Rattle.target_map.specs.Refusals.{name_of}
use Rattle.cert_read.proofs.name_lines.read_life.Goals as goal

pub returns-in_default-variable : goal.returns-in_default-variable
returns-in_default-variable c = λ reader read writer is.
    let p = c.args.program.now in
    let name = c.in-Some-spaced_word.name in
    let split = c.in-Some-spaced_word.ensures in
    let first = first_name p c.requires c.fields_are_one.ensures (codes "Life ") c.args.line.now c.in-Some.fields.now name.word.now name.rest.now (spaced (decimal read) (name_of p writer)) reader c.in-Some.ensures split.0 split.1 is.own.0 is.spelled in
    c.in_default-variable.ensures reader is.own.0 first.0

pub returns-in_default-spaced_natural : goal.returns-in_default-spaced_natural
returns-in_default-spaced_natural c = λ reader read writer is.
    let p = c.args.program.now in
    let name = c.in-Some-spaced_word.name in
    let split = c.in-Some-spaced_word.ensures in
    let first = first_name p c.requires c.fields_are_one.ensures (codes "Life ") c.args.line.now c.in-Some.fields.now name.word.now name.rest.now (spaced (decimal read) (name_of p writer)) reader c.in-Some.ensures split.0 split.1 is.own.0 is.spelled in
    c.in_default-spaced_natural.ensures read (name_of p writer) is.narrow first.1

pub returns-in_default-variable-2 : goal.returns-in_default-variable-2
returns-in_default-variable-2 c = λ reader read writer is.
    let p = c.args.program.now in
    let name = c.in-Some-spaced_word.name in
    let split = c.in-Some-spaced_word.ensures in
    let first = first_name p c.requires c.fields_are_one.ensures (codes "Life ") c.args.line.now c.in-Some.fields.now name.word.now name.rest.now (spaced (decimal read) (name_of p writer)) reader c.in-Some.ensures split.0 split.1 is.own.0 is.spelled in
    let number = c.in-Some-spaced_natural.number in
    let given = c.in-Some-spaced_natural.ensures in
    let behind = natural_fields number.value read number.rest.now (name_of p writer) given.0 is.narrow (sym given.1 ∙ first.1) in
    c.in_default-variable-2.ensures writer is.own.1 behind.1
