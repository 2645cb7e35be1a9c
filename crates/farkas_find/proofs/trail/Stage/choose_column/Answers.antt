use Rattle.std.proofs.Common.{◌≡◌, ◌∙◌, sym, Some}
use Rattle.farkas_find.specs.Choosing.{choice_of, free_columns}
use Rattle.farkas_find.proofs.Chosen.{choice-is_choice}
use Rattle.farkas_find.proofs.trail.Stage.choose_column.Goals as goal

pub without_column-requires-clause-choice : goal.without_column-requires-clause-choice
without_column-requires-clause-choice c =
    let is : c.in_ok-choice.field-0 ≡ choice_of (free_columns c.args.kept c.args.width) c.as_slice.result.now = c.in_ok-choice.ensures in
    let chosen : choice_of (free_columns c.args.kept c.args.width) c.args.self.rows ≡ Some c.in-Some.choice = rw (← c.as_slice.ensures) (sym is ∙ c.in-Some.is) in
    choice-is_choice c.args.kept c.args.width c.args.self.rows c.in-Some.choice chosen
