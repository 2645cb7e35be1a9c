use Rattle.std.proofs.Common.{◌≡◌, ◌∙◌, sym, subst, ap}
use Rattle.farkas_find.specs.declared.choice.Choice.{Choice}
use Rattle.farkas_find.specs.Answers.{choice_in}
use Rattle.farkas_find.specs.Inner.Nexts.{IsChoice}
use Rattle.farkas_find.proofs.Chosen.{choice_in-is_choice}
use Rattle.farkas_find.proofs.single.drop_tidied.Goals as goal

pub next_rows-requires-clause-choice : goal.next_rows-requires-clause-choice
next_rows-requires-clause-choice c =
    let is : c.in_ok-choice.choice ≡ choice_in c.args.column c.args.rows.items = c.in_ok-choice.ensures ∙ ap (choice_in c.args.column) c.as_slice.ensures.value in
    let P : Choice → Type 0 = IsChoice c.args.width c.args.rows.items in
    subst P (sym is) (choice_in-is_choice c.args.width c.args.column c.args.rows.items c.requires.inside)
