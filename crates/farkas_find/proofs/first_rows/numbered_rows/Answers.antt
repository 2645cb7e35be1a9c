use Rattle.std.proofs.Common.{arith, refl, map}
use Rattle.std.proofs.lemmas.List.{length-map}
use Rattle.farkas_find.specs.Stages.{given_rows}
use Rattle.farkas_find.proofs.Numbering.{length-numbered_from}
use Rattle.farkas_find.proofs.Given.{given_answers}
use Rattle.farkas_find.proofs.first_rows.numbered_rows.Goals as goal

pub returns-then-rows-gt-MOST_ROWS-clause-answer : goal.returns-then-rows-gt-MOST_ROWS-clause-answer
returns-then-rows-gt-MOST_ROWS-clause-answer g c =
    let affine = g.G.GivenRow.affine in
    (refl, omega (arith, length-numbered_from 0 (map affine c.args.rows.now), length-map c.args.rows.now affine, c.if-rows-gt-MOST_ROWS.true))

pub returns-clause-answer : goal.returns-clause-answer
returns-clause-answer g c =
    let affine = g.G.GivenRow.affine in
    given_answers (given_rows (map affine c.args.rows.now)) c.numbered.result
    (omega (arith, length-numbered_from 0 (map affine c.args.rows.now), length-map c.args.rows.now affine, c.if-rows-gt-MOST_ROWS.false))
    c.numbered.ensures.ok c.numbered.ensures.cause
