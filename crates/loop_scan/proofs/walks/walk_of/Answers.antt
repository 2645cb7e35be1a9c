use Rattle.loop_scan.proofs.Parting.{walk_of_nest}
use Rattle.loop_scan.proofs.walks.walk_of.Goals as goal

pub returns-clause-ok : goal.returns-clause-ok
returns-clause-ok c =
    let nest = c.in_ok-nest.nest in
    let made = c.in_ok-new.ensures in
    walk_of_nest c.args.width nest c.in_ok-new.field-0 c.in_ok-nest.ensures.state made.state made.levels made.all c.args.system.now c.if-nest.false c.in_ok-nest.ensures.points
