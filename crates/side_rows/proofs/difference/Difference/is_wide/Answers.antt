use Rattle.std.proofs.Common.{◌||◌, None, sym, ap, ◌∙◌}
use Rattle.side_rows.specs.Sides.{entry_of}
use Rattle.side_rows.specs.Entries.{is_out}
use Rattle.side_rows.proofs.Sums.{entries-out}
use Rattle.side_rows.proofs.difference.Difference.is_wide.Goals as goal

pub returns-then-has_coef_out : goal.returns-then-has_coef_out
returns-then-has_coef_out c =
    let d = c.args.self.now in
    let row = entries-out (λ n. n.now) c.names.result.now c.args.scope.now c.names.ensures d in
    c.if-has_coef_out.true ∙ sym (row ∙ ap (λ b. b || is_out (entry_of d None)) (sym c.has_coef_out.ensures ∙ c.if-has_coef_out.true))

pub returns-else-has_coef_out : goal.returns-else-has_coef_out
returns-else-has_coef_out c =
    let d = c.args.self.now in
    let row = entries-out (λ n. n.now) c.names.result.now c.args.scope.now c.names.ensures d in
    c.is_out.ensures ∙ sym (row ∙ ap (λ b. b || is_out (entry_of d None)) (sym c.has_coef_out.ensures ∙ c.if-has_coef_out.false))
