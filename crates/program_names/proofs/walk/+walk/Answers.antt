use Rattle.std.proofs.Common.{rules, ◌≡◌, ◌++◌, sym, ap, subst, ◌∙◌, false}
use Rattle.std.specs.Prelude.{IfOk}
use Rattle.std.specs.List.{list_any}
use Rattle.program_names.specs.Pieces.{operator, names, rows, pieces, pieces_of_branches}
use Rattle.program_names.proofs.PieceLemmas.{pieces-Cases, reduction-rest}
use Rattle.program_names.proofs.walk.+walk.Goals as goal

pub some_piece-returns-in-Cases-clause-ok : goal.some_piece-returns-in-Cases-clause-ok
some_piece-returns-in-Cases-clause-ok g t c =
    let wants = g.P.PieceTest.wants c.args.test.now in
    let scope = c.args.scope.now in
    let same : pieces_of_branches c.as_slice-in-Cases.result.now scope ≡ pieces c.args.expr.now scope =
    ap (λ b. pieces_of_branches b scope) c.as_slice-in-Cases.ensures ∙ (sym (pieces-Cases c.in-Cases.branches scope) ∙ ap (λ e. pieces e scope) (sym c.in-Cases.is)) in
    subst (λ ps. IfOk c.some_of_branches.result (λ found. found ≡ list_any wants ps)) same c.some_of_branches.ensures.ok

pub some_piece-returns-else-some_row-clause-ok : goal.some_piece-returns-else-some_row-clause-ok
some_piece-returns-else-some_row-clause-ok g t c =
    let wants = g.P.PieceTest.wants c.args.test.now in
    let scope = c.args.scope.now in
    let inner = scope ++ c.in-Reduction.extra in
    let no_operator : wants (operator c.in-Reduction.operator) ≡ false = search rules in
    let no_names : wants (names scope c.in-Reduction.extra) ≡ false = search rules in
    let no_row : list_any wants (rows inner c.in-Reduction.chains) ≡ false = search rules in
    let rest : IfOk c.some_piece-in-Reduction.result (λ found. found ≡ list_any wants (pieces c.in-Reduction.body inner)) = search rules in
    reduction-rest wants c.args.expr.now scope c.in-Reduction.operator c.in-Reduction.extra c.in-Reduction.chains c.in-Reduction.body
    c.some_piece-in-Reduction.result c.in-Reduction.is no_operator no_names no_row rest
