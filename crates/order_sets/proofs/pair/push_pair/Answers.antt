use Rattle.std.proofs.Common.{◌++◌, ap, sym}
use Rattle.order_sets.specs.NotBefore.{at_least, greater, both_ways, exceeds, is_within, apart}
use Rattle.order_sets.specs.Pairs.{rows_of}
use Rattle.order_sets.proofs.Making.{made_same, pushed, pushed_two}
use Rattle.order_sets.proofs.pair.push_pair.Goals as goal

pub returns-in_ok-push-in-BothWays-2 : goal.returns-in_ok-push-in-BothWays-2
returns-in_ok-push-in-BothWays-2 c = λ cs so_far.
    let u = c.args.u.now in
    let v = c.args.v.now in
    made_same (cs ++ both_ways u v) (cs ++ rows_of c.args.pair u v) c.push-in-BothWays.new.self (ap (λ pair. cs ++ rows_of pair u v) (sym c.in-BothWays.is))
    (pushed_two cs (at_least u v) (at_least v u) c.args.members.now c.push.new.self c.push-in-BothWays.new.self
    c.in_ok-at_least-in-BothWays.field-0 c.in_ok-at_least-in-BothWays-2.field-0
    c.in_ok-at_least-in-BothWays.ensures c.in_ok-push-in-BothWays.ensures c.in_ok-at_least-in-BothWays-2.ensures c.in_ok-push-in-BothWays-2.ensures so_far)

pub returns-in_ok-push-in-Exceeds : goal.returns-in_ok-push-in-Exceeds
returns-in_ok-push-in-Exceeds c = λ cs so_far.
    let u = c.args.u.now in
    let v = c.args.v.now in
    made_same (cs ++ exceeds u v) (cs ++ rows_of c.args.pair u v) c.push-in-Exceeds.new.self (ap (λ pair. cs ++ rows_of pair u v) (sym c.in-Exceeds.is))
    (pushed cs (greater u v) c.args.members.now c.push-in-Exceeds.new.self c.in_ok-greater-in-Exceeds.field-0
    c.in_ok-greater-in-Exceeds.ensures c.in_ok-push-in-Exceeds.ensures so_far)

pub returns-in_ok-push-in-IsWithin : goal.returns-in_ok-push-in-IsWithin
returns-in_ok-push-in-IsWithin c = λ cs so_far.
    let u = c.args.u.now in
    let v = c.args.v.now in
    made_same (cs ++ is_within u v) (cs ++ rows_of c.args.pair u v) c.push-in-IsWithin.new.self (ap (λ pair. cs ++ rows_of pair u v) (sym c.in-IsWithin.is))
    (pushed cs (at_least v u) c.args.members.now c.push-in-IsWithin.new.self c.in_ok-at_least-in-IsWithin.field-0
    c.in_ok-at_least-in-IsWithin.ensures c.in_ok-push-in-IsWithin.ensures so_far)

pub returns-in_ok-push-in-Apart-2 : goal.returns-in_ok-push-in-Apart-2
returns-in_ok-push-in-Apart-2 c = λ cs so_far.
    let u = c.args.u.now in
    let v = c.args.v.now in
    made_same (cs ++ apart u v) (cs ++ rows_of c.args.pair u v) c.push-in-Apart-2.new.self (ap (λ pair. cs ++ rows_of pair u v) (sym c.in-Apart.is))
    (pushed_two cs (greater v u) (greater u v) c.args.members.now c.push-in-Apart.new.self c.push-in-Apart-2.new.self
    c.in_ok-greater-in-Apart.field-0 c.in_ok-greater-in-Apart-2.field-0
    c.in_ok-greater-in-Apart.ensures c.in_ok-push-in-Apart.ensures c.in_ok-greater-in-Apart-2.ensures c.in_ok-push-in-Apart-2.ensures so_far)
