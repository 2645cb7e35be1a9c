use Rattle.std.proofs.Common.{◌≡◌, ◌+◌, ap, sym, subst, ◌∙◌, rules}
use Rattle.std.specs.List.{filter, fold}
use Rattle.farkas_find.specs.Choosing.{better_of, is_free, column_by_count, free_columns}
use Rattle.farkas_find.specs.Fewest.{HasFewest}
use Rattle.farkas_find.proofs.Fewest.{fewest}
use Rattle.farkas_find.proofs.Places.{rest_from, fold_yes, fold_no}
use Rattle.farkas_find.proofs.choose.column_by_count.Goals as goal
use Rattle.farkas_find.proofs.choose.column_by_count.Goals.{then-is_free, else-is_free}

pub columns-preserved : goal.columns-preserved
columns-preserved c =
    let step = better_of c.args.rows.now in
    let test = is_free c.args.kept in
    let column = c.columns.column in
    elim c.if-is_free.branch [
      | then-is_free w ↦ rw w.best-is (record {
        best = ap (λ b. fold step b (filter test (rest_from (column + 1) c.args.width))) w.better_of-best.ensures.column
            ∙ sym (fold_yes step test c.columns.best.column column c.args.width c.columns-test.true (sym c.is_free.ensures ∙ w.if-is_free.true)) ∙ c.columns.invariant.best;
        pairs = w.better_of-best.ensures.pairs;
      })
      | else-is_free w ↦ rw w.best-is (record {
        best = sym (fold_no step test c.columns.best.column column c.args.width c.columns-test.true (sym c.is_free.ensures ∙ w.if-is_free.false)) ∙ c.columns.invariant.best;
        pairs = c.columns.invariant.pairs;
      })
    ]

pub returns-clause-fewest : goal.returns-clause-fewest
unfolding column_by_count free_columns
returns-clause-fewest c =
    let columns = free_columns c.args.kept c.args.width in
    let is : c.columns.best.column ≡ column_by_count columns c.args.rows.now = search rules in
    subst (HasFewest columns c.args.rows.now) (sym is) (fewest columns c.args.rows.now)
