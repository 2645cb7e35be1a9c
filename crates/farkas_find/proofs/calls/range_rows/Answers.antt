use Rattle.std.proofs.Common.{◌≡◌, ◌∙◌, ap, sym, subst, ℕ, List, Some, IfOk, Err, rules, inl}
use Rattle.std.specs.List.{All}
use Rattle.az_lin.specs.Affine.{Affine}
use Rattle.farkas_find.specs.declared.numbered.Numbered.{Numbered}
use Rattle.farkas_find.specs.Combining.{HaveWidth}
use Rattle.farkas_find.specs.Choosing.{free_columns}
use Rattle.farkas_find.specs.Stages.{given_rows}
use Rattle.farkas_find.specs.Answers.{RangeAnswers}
use Rattle.farkas_find.proofs.Keeping.{Every-given}
use Rattle.farkas_find.proofs.Widths.{HasLength}
use Rattle.az_lin.specs.Combination.{HasWideEntries}
use Rattle.farkas_find.specs.Remaining.{KeepsWidth, KeepsRange}
use Rattle.farkas_find.proofs.Ranges.{ok_weaker, range-keeps}
use Rattle.farkas_find.proofs.OneAnswer.{range_once}
use Rattle.farkas_find.proofs.Sound.{range-sound}
use Rattle.farkas_find.proofs.Alone.{range-alone}
use Rattle.farkas_find.specs.Inner.Nexts.{GivenAnswers}
use Rattle.farkas_find.specs.OneAnswer.{Agrees}
use Rattle.farkas_find.specs.declared.fault.FindFault.{FindFault}
use Rattle.farkas_find.specs.declared.fault.FindFault.TheVariants.{Overflow, Limit, Memory}
use Rattle.farkas_find.proofs.calls.range_rows.Goals as goal

refused_range : (columns : List ℕ) (given : List Numbered) (fault : FindFault) → GivenAnswers given (Err fault) → RangeAnswers columns given (Err fault)
refused_range columns given (Overflow s) h = absurd h
refused_range columns given (Limit limit) h = (h.0, inl h.1)
refused_range columns given Memory h = tt

width_of_stored : (width : ℕ) (rows : List Affine) (given : List Numbered) → All (HasLength width) rows → given ≡ given_rows rows → HaveWidth width given
width_of_stored width rows given all is =
    let P : List Numbered → Type 0 = HaveWidth width in
    subst P (sym is) (Every-given (HasLength width) rows all)

pub range_given-requires-clause-widths : goal.range_given-requires-clause-widths
range_given-requires-clause-widths c =
    rw c.width.ensures (width_of_stored c.args.system.now.width c.rows.result.now c.in_ok-given.given.items c.rows.ensures.widths c.in_ok-given.ensures.answer.1)

exact : (c : goal.After-range_given) → RangeAnswers (free_columns (Some c.args.column) c.args.system.now.width) (given_rows c.args.system.now.rows) c.range_given.result
exact c =
    let is : c.in_ok-given.given.items ≡ given_rows c.args.system.now.rows = c.in_ok-given.ensures.answer.1 ∙ ap given_rows c.rows.ensures.value in
    let P : List Numbered → Type 0 = λ given. RangeAnswers (free_columns (Some c.args.column) c.args.system.now.width) given c.range_given.result in
    let W : ℕ → Type 0 = λ width. RangeAnswers (free_columns (Some c.args.column) width) c.in_ok-given.given.items c.range_given.result in
    subst P is (subst W c.width.ensures c.range_given.ensures)

pub returns-clause-exact : goal.returns-clause-exact
returns-clause-exact c = exact c

pub returns-clause-only : goal.returns-clause-only
returns-clause-only c = λ other same.
    range_once (free_columns (Some c.args.column) c.args.system.now.width) (given_rows c.args.system.now.rows) c.range_given.result other (exact c) same

pub returns-clause-sound : goal.returns-clause-sound
returns-clause-sound c =
    let system = c.args.system.now in
    let is : c.in_ok-given.given.items ≡ given_rows system.rows = c.in_ok-given.ensures.answer.1 ∙ ap given_rows c.rows.ensures.value in
    let P : List Numbered → Type 0 = λ given. RangeAnswers (free_columns (Some c.args.column) system.width) given c.range_given.result in
    let W : ℕ → Type 0 = λ width. RangeAnswers (free_columns (Some c.args.column) width) c.in_ok-given.given.items c.range_given.result in
    let V : List Numbered → Type 0 = HaveWidth system.width in
    let widths : HaveWidth system.width c.in_ok-given.given.items = width_of_stored system.width c.rows.result.now c.in_ok-given.given.items c.rows.ensures.widths c.in_ok-given.ensures.answer.1 in
    λ z. range-sound z (Some c.args.column) system.width system.rows c.range_given.result (subst V is widths) (subst P is (subst W c.width.ensures c.range_given.ensures))

pub returns-clause-alone : goal.returns-clause-alone
returns-clause-alone c =
    let W : ℕ → Type 0 = λ width. RangeAnswers (free_columns (Some c.args.column) width) c.in_ok-given.given.items c.range_given.result in
    range-alone c.args.column c.args.system.now.width c.in_ok-given.given.items c.range_given.result (subst W c.width.ensures c.range_given.ensures)

keeps : (c : goal.After-range_given) → IfOk c.range_given.result (λ left. KeepsWidth c.args.system.now.width left × KeepsRange left)
keeps c =
    let system = c.args.system.now in
    let is : c.in_ok-given.given.items ≡ given_rows system.rows = c.in_ok-given.ensures.answer.1 ∙ ap given_rows c.rows.ensures.value in
    let P : List Numbered → Type 0 = λ given. RangeAnswers (free_columns (Some c.args.column) system.width) given c.range_given.result in
    let W : ℕ → Type 0 = λ width. RangeAnswers (free_columns (Some c.args.column) width) c.in_ok-given.given.items c.range_given.result in
    let V : List Numbered → Type 0 = HaveWidth system.width in
    let widths : HaveWidth system.width c.in_ok-given.given.items = width_of_stored system.width c.rows.result.now c.in_ok-given.given.items c.rows.ensures.widths c.in_ok-given.ensures.answer.1 in
    let wide : All HasWideEntries system.rows = subst (λ (rows : List Affine). All HasWideEntries rows) c.rows.ensures.value c.in_ok-given.ensures.range in
    range-keeps (Some c.args.column) system.width system.rows c.range_given.result (subst P is (subst W c.width.ensures c.range_given.ensures)) (subst V is widths) wide

pub returns-clause-widths : goal.returns-clause-widths
returns-clause-widths c =
    ok_weaker c.range_given.result (λ left. KeepsWidth c.args.system.now.width left × KeepsRange left) (KeepsWidth c.args.system.now.width) (λ left h. h.0) (keeps c)

pub returns-clause-range : goal.returns-clause-range
returns-clause-range c = ok_weaker c.range_given.result (λ left. KeepsWidth c.args.system.now.width left × KeepsRange left) KeepsRange (λ left h. h.1) (keeps c)

pub returns-in_err-given-clause-only : goal.returns-in_err-given-clause-only
returns-in_err-given-clause-only c = λ other same.
    let columns = free_columns (Some c.args.column) c.args.system.now.width in
    let given = given_rows c.args.system.now.rows in
    let refused : GivenAnswers (given_rows c.rows.result.now) (Err c.in_err-given.field-0.0) = c.in_err-given.ensures.answer in
    let handed : c.from_residual.result ≡ Err c.in_err-given.field-0.0 = search rules in
    let exact : RangeAnswers columns given (Err c.in_err-given.field-0.0) =
    refused_range columns given c.in_err-given.field-0.0 (subst (λ (rows : List Affine). GivenAnswers (given_rows rows) (Err c.in_err-given.field-0.0)) c.rows.ensures.value refused) in
    subst (λ answer. Agrees answer other) (sym handed) (range_once columns given (Err c.in_err-given.field-0.0) other exact same)
