use Rattle.std.proofs.Common.{◌≡◌, ap, sym, ◌∙◌, None, Some}
use Rattle.std.specs.Option.{option_map}
use Rattle.farkas_find.specs.Choosing.{pair_in, choice_with, is_free}
use Rattle.farkas_find.proofs.Firsts.{none_of, first_of-past_kept, first_of-past_left}
use Rattle.farkas_find.proofs.choose.choice_by_pair.Goals as goal
use Rattle.farkas_find.proofs.choose.choice_by_pair.Goals.{then-is_free+else-is_some, else-is_free}

pub columns-preserved : goal.columns-preserved
columns-preserved c =
    let rows = c.args.rows.now in
    let give = choice_with rows in
    let test = is_free c.args.kept in
    let column = c.columns.column in
    elim c.if-is_free.branch [
      | then-is_free+else-is_some w ↦
          let no_pair : pair_in column rows ≡ None = sym w.pair_in-pair.ensures ∙ none_of w.pair_in-pair.result (sym w.is_some.ensures ∙ w.if-is_some.false) in
          let none : give column ≡ None = ap (option_map (λ pair. record { column = column; pair = Some pair })) no_pair in
          sym (first_of-past_kept give test column c.args.width c.columns-test.true (sym c.is_free.ensures ∙ w.if-is_free.true) none) ∙ c.columns.invariant
      | else-is_free w ↦ sym (first_of-past_left give test column c.args.width c.columns-test.true (sym c.is_free.ensures ∙ w.if-is_free.false)) ∙ c.columns.invariant
    ]
