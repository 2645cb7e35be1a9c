use Rattle.std.proofs.Common.{rules, ◌≡◌, true, false, sym}
use Rattle.std.specs.List.{list_any}
use Rattle.az_ast.specs.declared.fault.ShapeKind.TheVariants.{TwiceName, UnknownName, Literal, Entry}
use Rattle.program_names.specs.Pieces.{equation_pieces}
use Rattle.program_names.specs.Refusals.{is_twice, is_unknown, is_wide_literal, is_wide_row}
use Rattle.program_names.proofs.FirstRows.{second-hit, third-hit, fourth-hit, no-hit}
use Rattle.program_names.proofs.kinds.written_kind.Goals as goal

pub returns-then-branch-2-clause-ok : goal.returns-then-branch-2-clause-ok
returns-then-branch-2-clause-ok c =
    let text = c.args.text.now in
    let ps = equation_pieces text.params c.args.equation.now in
    let t0 : list_any is_twice ps ≡ false = search rules in
    let t1 : list_any (is_unknown text) ps ≡ true = search rules in
    sym (second-hit (list_any is_twice ps) (list_any (is_unknown text) ps) (list_any is_wide_literal ps) (list_any is_wide_row ps) TwiceName UnknownName Literal Entry t0 t1)

pub returns-then-branch-3-clause-ok : goal.returns-then-branch-3-clause-ok
returns-then-branch-3-clause-ok c =
    let text = c.args.text.now in
    let ps = equation_pieces text.params c.args.equation.now in
    let t0 : list_any is_twice ps ≡ false = search rules in
    let t1 : list_any (is_unknown text) ps ≡ false = search rules in
    let t2 : list_any is_wide_literal ps ≡ true = search rules in
    sym (third-hit (list_any is_twice ps) (list_any (is_unknown text) ps) (list_any is_wide_literal ps) (list_any is_wide_row ps) TwiceName UnknownName Literal Entry t0 t1 t2)

pub returns-then-branch-4-clause-ok : goal.returns-then-branch-4-clause-ok
returns-then-branch-4-clause-ok c =
    let text = c.args.text.now in
    let ps = equation_pieces text.params c.args.equation.now in
    let t0 : list_any is_twice ps ≡ false = search rules in
    let t1 : list_any (is_unknown text) ps ≡ false = search rules in
    let t2 : list_any is_wide_literal ps ≡ false = search rules in
    let t3 : list_any is_wide_row ps ≡ true = search rules in
    sym (fourth-hit (list_any is_twice ps) (list_any (is_unknown text) ps) (list_any is_wide_literal ps) (list_any is_wide_row ps) TwiceName UnknownName Literal Entry t0 t1 t2 t3)

pub returns-clause-ok : goal.returns-clause-ok
returns-clause-ok c =
    let text = c.args.text.now in
    let ps = equation_pieces text.params c.args.equation.now in
    let t0 : list_any is_twice ps ≡ false = search rules in
    let t1 : list_any (is_unknown text) ps ≡ false = search rules in
    let t2 : list_any is_wide_literal ps ≡ false = search rules in
    let t3 : list_any is_wide_row ps ≡ false = search rules in
    sym (no-hit (list_any is_twice ps) (list_any (is_unknown text) ps) (list_any is_wide_literal ps) (list_any is_wide_row ps) TwiceName UnknownName Literal Entry t0 t1 t2 t3)
