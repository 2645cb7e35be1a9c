use Rattle.std.proofs.Common.{[]}
use Rattle.order_sets.specs.NotBefore.{both_ways}
use Rattle.order_sets.proofs.Making.{new_made, all_made}
use Rattle.life_sets.proofs.same_cells.equal.Goals as goal

pub returns : goal.returns
returns c =
    all_made (both_ways c.args.u.now c.args.v.now) c.push_pair.new.members c.all.result c.all.ensures
    (c.in_ok-push_pair.ensures [] (new_made c.new-both.result c.new-both.ensures))
