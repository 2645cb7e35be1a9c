use Rattle.std.proofs.Common.{◌≡◌, ◌∙◌, ap, sym, subst, ℕ, List, map, length}
use Rattle.std.specs.List.{All}
use Rattle.std.proofs.lemmas.List.Elements.{All-map}
use Rattle.farkas_find.specs.declared.numbered.Numbered.{Numbered}
use Rattle.farkas_find.specs.declared.wide.WideRow.{WideRow}
use Rattle.farkas_find.specs.Combining.{HaveWidth}
use Rattle.farkas_find.specs.Rows.{affine_of}
use Rattle.farkas_find.specs.Stages.{given_rows}
use Rattle.farkas_find.specs.Answers.{DropAnswers}
use Rattle.farkas_find.proofs.Keeping.{Every-given}
use Rattle.farkas_find.proofs.Widths.{HasLength}
use Rattle.farkas_find.specs.Remaining.{HaveColumns, KeepsWidth, KeepsOneWidth}
use Rattle.farkas_find.proofs.Ranges.{ok_weaker, one_of_columns, drop-lacks, drop-keeps_width, drop-keeps_any, drop-keeps_range}
use Rattle.farkas_find.proofs.OneAnswer.{drop_once}
use Rattle.farkas_find.proofs.Sound.{drop-sound}
use Rattle.farkas_find.proofs.calls.drop_column.Goals as goal

-- rows whose width is known, as the first stage takes them
width_of_given : (width : ℕ) (rows slice : List WideRow) (given : List Numbered) → slice ≡ rows → All (λ row. length row.coefs ≡ width) rows
    → given ≡ given_rows (map affine_of slice) → HaveWidth width given
width_of_given width rows slice given same all is =
    let P : List Numbered → Type 0 = HaveWidth width in
    let Q : List WideRow → Type 0 = λ rows. HaveWidth width (given_rows (map affine_of rows)) in
    subst P (sym is) (subst Q (sym same) (Every-given (HasLength width) (map affine_of rows) (All-map (HasLength width) affine_of rows all)))

pub drop_given-requires-clause-widths : goal.drop_given-requires-clause-widths
drop_given-requires-clause-widths c =
    width_of_given c.width_above-width.result c.args.rows c.as_slice-2.result.now c.in_ok-given.given.items c.as_slice-2.ensures
    (rw (← c.as_slice.ensures) c.width_above-width.ensures.widths) c.in_ok-given.ensures.1

exact : (c : goal.After-drop-rows-inside-2) → DropAnswers c.args.column (given_rows (map affine_of c.args.rows)) c.drop_given.result
exact c =
    let is : c.in_ok-given.given.items ≡ given_rows (map affine_of c.args.rows) = c.in_ok-given.ensures.1 ∙ ap (λ rows. given_rows (map affine_of rows)) c.as_slice-2.ensures in
    let P : List Numbered → Type 0 = λ given. DropAnswers c.args.column given c.drop_given.result in
    subst P is c.drop_given.ensures

columns : (c : goal.After-drop-rows-inside-2) → HaveColumns c.width_above-width.result c.args.rows
columns c = rw (← c.as_slice.ensures) c.width_above-width.ensures.widths

pub returns-clause-sound : goal.returns-clause-sound
returns-clause-sound c =
    let rows = map affine_of c.args.rows in
    let width = c.width_above-width.result in
    let widths : HaveWidth width (given_rows rows) = Every-given (HasLength width) rows (All-map (HasLength width) affine_of c.args.rows (columns c)) in
    λ z. drop-sound z width c.args.column rows c.drop_given.result c.width_above-width.ensures.inside widths (exact c)

pub returns-clause-gone : goal.returns-clause-gone
returns-clause-gone c = drop-lacks c.width_above-width.result c.args.column c.args.rows c.drop_given.result c.width_above-width.ensures.inside (exact c) (columns c)

pub returns-clause-widths : goal.returns-clause-widths
returns-clause-widths c = λ width all.
    drop-keeps_any c.width_above-width.result width c.args.column c.args.rows c.drop_given.result c.width_above-width.ensures.inside (exact c) (columns c) all

pub returns-clause-one_width : goal.returns-clause-one_width
returns-clause-one_width c =
    let width = c.width_above-width.result in
    ok_weaker c.drop_given.result (KeepsWidth width) KeepsOneWidth (one_of_columns width)
    (drop-keeps_width width c.args.column c.args.rows c.drop_given.result c.width_above-width.ensures.inside (exact c) (columns c))

pub returns-clause-range : goal.returns-clause-range
returns-clause-range c = drop-keeps_range c.args.column c.args.rows c.drop_given.result (exact c) c.requires.range

pub returns-clause-only : goal.returns-clause-only
returns-clause-only c = λ other same. drop_once c.args.column (given_rows (map affine_of c.args.rows)) c.drop_given.result other (exact c) same
