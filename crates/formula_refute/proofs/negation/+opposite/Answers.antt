use Rattle.formula_refute.proofs.FormulaData.{all_data, any_data}
use Rattle.formula_refute.proofs.Opposites.{opposite_more, opposite_all, opposite_any, refused_all, refused_any}
use Rattle.std.proofs.Common.{arith}
use Rattle.formula_refute.proofs.negation.+opposite.Goals as goal

pub returns-in-Err-opposite : goal.returns-in-Err-opposite
returns-in-Err-opposite t c =
    let items = c.as_slice-member-items.result.now in
    refused_all c.args.f.now c.member-item.result items c.all.member-index c.in-Err-opposite.fault c.all-test.true c.member-item.is c.in-Err-opposite.ensures
    (all_data c.args.f.now c.in-All.members items c.as_slice-member-items.ensures c.in-All.is)

pub all-preserved : goal.all-preserved
all-preserved t c =
    let items = c.as_slice-member-items.result.now in
    opposite_more items c.all.opposites c.push.new.self c.all.member-index c.member-item.result c.in-Ok-opposite.negated c.all-test.true c.member-item.is c.in-Ok-opposite.ensures
    c.in_ok-push-in-Ok-opposite.ensures.ok c.all.invariant

pub returns-after-all : goal.returns-after-all
returns-after-all t c =
    let items = c.as_slice-member-items.result.now in
    opposite_all c.args.f.now items c.all.opposites c.all.member-index (omega arith) c.all.invariant
    (all_data c.args.f.now c.in-All.members items c.as_slice-member-items.ensures c.in-All.is)

pub returns-in-Err-opposite-2 : goal.returns-in-Err-opposite-2
returns-in-Err-opposite-2 t c =
    let items = c.as_slice-member-items-in-Any.result.now in
    refused_any c.args.f.now c.member-item-in-any.result items c.any.member-index c.in-Err-opposite-2.fault c.any-test.true c.member-item-in-any.is c.in-Err-opposite-2.ensures
    (any_data c.args.f.now c.in-Any.members items c.as_slice-member-items-in-Any.ensures c.in-Any.is)

pub any-preserved : goal.any-preserved
any-preserved t c =
    let items = c.as_slice-member-items-in-Any.result.now in
    opposite_more items c.any.opposites c.push-in-Ok-opposite-2.new.self c.any.member-index c.member-item-in-any.result c.in-Ok-opposite-2.negated c.any-test.true c.member-item-in-any.is c.in-Ok-opposite-2.ensures
    c.in_ok-push-in-Ok-opposite-2.ensures.ok c.any.invariant

pub returns-after-any : goal.returns-after-any
returns-after-any t c =
    let items = c.as_slice-member-items-in-Any.result.now in
    opposite_any c.args.f.now items c.any.opposites c.any.member-index (omega arith) c.any.invariant
    (any_data c.args.f.now c.in-Any.members items c.as_slice-member-items-in-Any.ensures c.in-Any.is)
