use Rattle.std.proofs.Common.{◌≡◌, ◌<◌, ◌≤◌, ◌++◌, ◌∙◌, max, length, ap, sym, arith}
use Rattle.formula_refute.specs.Claims.{claim}
use Rattle.formula_refute.specs.Cases.{cases}
use Rattle.formula_refute.proofs.FormulaData.{all_data, any_data}
use Rattle.formula_refute.proofs.CaseRows.{case_at, all_more, all_ends, any_here}
use Rattle.formula_refute.proofs.Outcomes.{on_ok_then}
use Rattle.formula_refute.proofs.case.+push_case.Goals as goal

pub all-preserved : goal.all-preserved
all-preserved t c = λ count_is few below.
    let items = c.as_slice-member-items.result.now in
    let step = all_more items c.all.member-index c.args.number c.args.rows.now c.all.rows c.all.after c.all.left c.member-item.result c.max-own.result c.max-after.result c.all-test.true c.member-item.is
    (c.max-own.ensures ∙ ap (λ n. max n 1) c.case_count.ensures) c.max-after.ensures (c.all.invariant count_is few below) in
    step.goes_on c.push_case.new.rows (c.in_ok-push_case-in-All.ensures.ok step.count step.few step.within)

pub returns-then-left-own-clause-ok : goal.returns-then-left-own-clause-ok
returns-then-left-own-clause-ok t c =
    let items = c.as_slice-member-items-in-Any.result.now in
    let m = c.member-item-in-any.result in
    let shape = any_data c.args.f.now c.in-Any.members items c.as_slice-member-items-in-Any.ensures c.in-Any.is in
    let rows = c.args.rows.now in
    on_ok_then
    (c.case_count-own.result ≡ length (cases (claim m)) → c.case_count-own.result ≤ 131072 → c.any.left < c.case_count-own.result → c.push_case-then-left-own.new.rows ≡ c.any.rows ++ case_at (cases (claim m)) c.any.left)
    (c.args.count ≡ length (cases (claim c.args.f.now)) → c.args.count ≤ 131072 → c.args.number < c.args.count → c.push_case-then-left-own.new.rows ≡ rows ++ case_at (cases (claim c.args.f.now)) c.args.number)
    (λ pushed count_is few below.
    let here = any_here items c.any.member-index c.args.number c.any.left m c.case_count-own.result c.any-test.true c.member-item-in-any.is c.case_count-own.ensures (c.any.invariant.1 count_is few below) c.if-left-own.true in
    pushed here.0 here.1 c.if-left-own.true ∙ ap (λ xs. xs ++ case_at (cases (claim m)) c.any.left) c.any.invariant.0 ∙ ap (λ xs. rows ++ xs) here.2
    ∙ ap (λ d. rows ++ case_at (cases d) c.args.number) (sym shape))
    c.push_case-then-left-own.result c.push_case-then-left-own.ensures.ok

pub returns-after-all-clause-ok : goal.returns-after-all-clause-ok
returns-after-all-clause-ok t c = λ count_is few below.
    let items = c.as_slice-member-items.result.now in
    let shape = all_data c.args.f.now c.in-All.members items c.as_slice-member-items.ensures c.in-All.is in
    let rows = c.args.rows.now in
    all_ends items c.all.member-index c.args.number rows c.all.rows c.all.after c.all.left (omega arith) (c.all.invariant count_is few below)
    ∙ ap (λ d. rows ++ case_at (cases d) c.args.number) (sym shape)
