use Rattle.std.proofs.Common.{[]}
use Rattle.order_sets.specs.NotBefore.{both_ways, each_pair}
use Rattle.order_sets.proofs.Making.{new_made, all_made}
use Rattle.order_sets.proofs.pair.equal.Goals as goal

pub returns : goal.returns
returns c =
    all_made (each_pair both_ways c.args.us.now c.args.vs.now) c.push_each_pair.new.members c.all.result c.all.ensures
    (c.in_ok-push_each_pair.ensures [] (new_made c.new-places.result c.new-places.ensures))
