use Rattle.std.proofs.Common.{◌≡◌, ◌∙◌, ap, subst, List, map, IfOk}
use Rattle.farkas_find.specs.declared.numbered.Numbered.{Numbered}
use Rattle.farkas_find.specs.Rows.{affine_of}
use Rattle.farkas_find.specs.Stages.{given_rows}
use Rattle.farkas_find.specs.Answers.{TidyAnswers}
use Rattle.farkas_find.specs.Remaining.{KeepsWidth, KeepsOneWidth}
use Rattle.farkas_find.proofs.Ranges.{ok_weaker, by_width, one_of_columns, tidy-keeps_width, tidy-keeps_range}
use Rattle.farkas_find.proofs.OneAnswer.{tidy_once}
use Rattle.farkas_find.proofs.Twins.{tidy-back, tidy-has_no_twins}
use Rattle.farkas_find.proofs.Sound.{tidy-sound}
use Rattle.farkas_find.proofs.calls.tidy.Goals as goal

exact : (c : goal.After-drop-rows-inside-2) → TidyAnswers (given_rows (map affine_of c.args.rows)) c.tidy_given.result
exact c =
    let is : c.in_ok-given.given.items ≡ given_rows (map affine_of c.args.rows) = c.in_ok-given.ensures.1 ∙ ap (λ rows. given_rows (map affine_of rows)) c.as_slice.ensures in
    let P : List Numbered → Type 0 = λ given. TidyAnswers given c.tidy_given.result in
    subst P is c.tidy_given.ensures

pub returns-clause-sound : goal.returns-clause-sound
returns-clause-sound c = λ z. tidy-sound z (map affine_of c.args.rows) c.tidy_given.result (exact c)

pub returns-clause-widths : goal.returns-clause-widths
returns-clause-widths c = λ width all. tidy-keeps_width width c.args.rows c.tidy_given.result (exact c) all

pub returns-clause-one_width : goal.returns-clause-one_width
returns-clause-one_width c =
    by_width (IfOk c.tidy_given.result KeepsOneWidth) c.args.rows c.requires.widths
    (λ width all. ok_weaker c.tidy_given.result (KeepsWidth width) KeepsOneWidth (one_of_columns width) (tidy-keeps_width width c.args.rows c.tidy_given.result (exact c) all))

pub returns-clause-range : goal.returns-clause-range
returns-clause-range c = tidy-keeps_range c.args.rows c.tidy_given.result (exact c) c.requires.range

pub returns-clause-only : goal.returns-clause-only
returns-clause-only c = λ other same. tidy_once (given_rows (map affine_of c.args.rows)) c.tidy_given.result other (exact c) same

pub returns-clause-back : goal.returns-clause-back
returns-clause-back c = λ z. tidy-back z (map affine_of c.args.rows) c.tidy_given.result (exact c)

pub returns-clause-unique : goal.returns-clause-unique
returns-clause-unique c = tidy-has_no_twins (given_rows (map affine_of c.args.rows)) c.tidy_given.result (exact c)
