use Rattle.std.proofs.Common.{◌≡◌, length, arith, ◌∙◌}
use Rattle.domain_check.proofs.Grown.{system_made}
use Rattle.domain_check.proofs.directions.all_of.Goals as goal

pub returns : goal.returns
returns c =
    let end : c.rows.row-index ≡ length c.args.slopes.now = omega arith in
    system_made c.args.slopes.now c.rows.row-index c.rows.members.items c.from_vec.result c.args.last end c.rows.invariant (c.from_vec.ensures ∙ c.in_ok-push-2.ensures.items)
