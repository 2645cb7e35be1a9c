use Rattle.std.proofs.Common.{◌≡◌, refl, sym, subst, arith}
use Rattle.std.specs.Prelude.{All}
use Rattle.az_ast.specs.Inner.KeptRows.{KeepsRows}
use Rattle.az_ast.specs.Term.{Term, term}
use Rattle.az_ast.proofs.RowLaws.{KeepsBranch, keeps-more, branches_keep}
use Rattle.az_ast.proofs.Walks.{below, of_cases}
use Rattle.az_ast.proofs.rows.+expr_rows.Goals as goal

pub loop-branch-preserved : goal.loop-branch-preserved
loop-branch-preserved t c =
    keeps-more c.as_slice-branch-items.result.now c.loop-branch.branch-index c.branch-item.result c.loop-branch-test.true c.branch-item.is c.loop-branch.invariant
    (record { domain = c.domain_rows.ensures; body = c.expr_rows-in-loop-branch.ensures })

pub returns-after-loop-branch : goal.returns-after-loop-branch
returns-after-loop-branch t c =
    let items = c.as_slice-branch-items.result.now in
    let same : term c.args.e.now ≡ Term.cases (below items) = of_cases (λ t. t) Term.cases (λ b. refl) c.args.e.now c.in-Cases.branches items c.in-Cases.is c.as_slice-branch-items.ensures in
    let each : All KeepsBranch items = λ k d l. c.loop-branch.invariant k d (omega arith) in
    subst KeepsRows (sym same) (branches_keep items each)
