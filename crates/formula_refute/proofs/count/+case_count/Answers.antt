use Rattle.std.proofs.Common.{arith}
use Rattle.formula_refute.proofs.FormulaData.{all_data, any_data}
use Rattle.formula_refute.proofs.Counts.{capped, count_more_all, count_of_all, count_of_any}
use Rattle.formula_refute.specs.Cases.{cases_of_all}
use Rattle.formula_refute.proofs.FormulaData.{below}
use Rattle.std.proofs.Common.{length}
use Rattle.formula_refute.proofs.count.+case_count.Goals as goal

pub all-preserved : goal.all-preserved
all-preserved t c =
    let items = c.as_slice-member-items.result.now in
    count_more_all items c.all.member-index c.member-item.result c.all-test.true c.member-item.is c.all.count c.case_count.result c.min-count.result (capped (length (cases_of_all (below items))))
    c.case_count.ensures c.min-count.ensures c.all.invariant.1

pub returns-after-all : goal.returns-after-all
returns-after-all t c =
    let items = c.as_slice-member-items.result.now in
    count_of_all c.args.f.now items c.all.member-index c.all.count (omega arith) c.all.invariant.0 (all_data c.args.f.now c.in-All.members items c.as_slice-member-items.ensures c.in-All.is) c.all.invariant.1

pub returns-after-any : goal.returns-after-any
returns-after-any t c =
    let items = c.as_slice-member-items-in-Any.result.now in
    count_of_any c.args.f.now items c.any.member-index c.any.count (omega arith) c.any.invariant.0 (any_data c.args.f.now c.in-Any.members items c.as_slice-member-items-in-Any.ensures c.in-Any.is) c.any.invariant.1
