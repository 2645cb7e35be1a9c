use Rattle.std.proofs.Common.{map}
use Rattle.formula_refute.specs.Claims.{claim}
use Rattle.domain_check.proofs.Grown.{ways_next}
use Rattle.domain_check.proofs.directions.push_along_each.Goals as goal

pub indices-preserved : goal.indices-preserved
indices-preserved c =
    ways_next c.args.extra c.args.slopes.now c.indices.index (map claim c.args.found.now.items) c.indices.found.items c.push.new.self.items c.push-in-indices.new.self.items
    c.in_ok-all_of.field-0 c.in_ok-all_of-2.field-0 c.in_ok-upwards.upwards c.in_ok-downwards.downwards c.indices.invariant c.in_ok-upwards.ensures c.in_ok-downwards.ensures
    c.in_ok-all_of.ensures c.in_ok-all_of-2.ensures c.in_ok-push.ensures.items c.in_ok-push-2.ensures.items
