use Rattle.std.proofs.Common.{List, subst, OnOk}
use Rattle.std.proofs.lemmas.List.{map-id}
use Rattle.std.specs.Prelude.{All}
use Rattle.az_lin.specs.Affine.{Affine}
use Rattle.az_lin.specs.Combination.{HasWideEntries}
use Rattle.farkas_find.specs.Stages.{given_rows}
use Rattle.farkas_find.specs.Inner.Nexts.{GivenAnswers}
use Rattle.farkas_find.proofs.stored.stored_rows.Goals as goal

pub returns-clause-answer : goal.returns-clause-answer
returns-clause-answer c =
    let P : List Affine → Type 0 = λ rows. GivenAnswers (given_rows rows) c.numbered_rows.result in
    subst P (map-id c.args.rows.now) c.numbered_rows.ensures.answer

pub returns-clause-range : goal.returns-clause-range
returns-clause-range c =
    let P : List Affine → Type 0 = λ rows. OnOk c.numbered_rows.result (All HasWideEntries rows) in
    subst P (map-id c.args.rows.now) c.numbered_rows.ensures.range
