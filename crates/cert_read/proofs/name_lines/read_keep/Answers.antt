use Rattle.std.specs.Prelude.{codes}
use Rattle.cert_read.proofs.LineFields.{first_name}
use Rattle.target_map.specs.Refusals.{name_of}
use Rattle.cert_read.proofs.name_lines.read_keep.Goals as goal

pub returns-in_default-variable : goal.returns-in_default-variable
returns-in_default-variable c = λ output writer is.
    let p = c.args.program.now in
    let name = c.in-Some-spaced_word.name in
    let split = c.in-Some-spaced_word.ensures in
    let first = first_name p c.requires c.fields_are_one.ensures (codes "Keep ") c.args.line.now c.in-Some.fields.now name.word.now name.rest.now (name_of p writer) output c.in-Some.ensures split.0 split.1 is.own.0 is.spelled in
    c.in_default-variable.ensures output is.own.0 first.0

pub returns-in_default-variable-2 : goal.returns-in_default-variable-2
returns-in_default-variable-2 c = λ output writer is.
    let p = c.args.program.now in
    let name = c.in-Some-spaced_word.name in
    let split = c.in-Some-spaced_word.ensures in
    let first = first_name p c.requires c.fields_are_one.ensures (codes "Keep ") c.args.line.now c.in-Some.fields.now name.word.now name.rest.now (name_of p writer) output c.in-Some.ensures split.0 split.1 is.own.0 is.spelled in
    c.in_default-variable-2.ensures writer is.own.1 first.1
