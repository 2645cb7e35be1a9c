use Rattle.std.proofs.Common.{[], ◌∷◌, ◌++◌}
use Rattle.order_sets.specs.NotBefore.{both_ways, each_pair, greater}
use Rattle.order_sets.proofs.Making.{new_made, pushed, all_made}
use Rattle.order_sets.proofs.pair.less_at.Goals as goal

pub returns : goal.returns
returns c =
    let same = each_pair both_ways c.args.us.now c.args.vs.now in
    let last = greater c.args.v.now c.args.u.now in
    all_made (same ++ last ∷ []) c.push.new.self c.all.result c.all.ensures
    (pushed same last c.push_each_pair.new.members c.push.new.self c.in_ok-greater.field-0 c.in_ok-greater.ensures c.in_ok-push.ensures
    (c.in_ok-push_each_pair.ensures [] (new_made c.new-rows.result c.new-rows.ensures)))
