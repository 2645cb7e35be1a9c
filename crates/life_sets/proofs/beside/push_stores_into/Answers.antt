use Rattle.life_sets.specs.Cells.{shared, other}
use Rattle.life_sets.proofs.Pushes.{pushed_three, times_made}
use Rattle.order_sets.specs.NotBefore.{not_before}
use Rattle.order_sets.specs.Rows.{stamp_of}
use Rattle.order_sets.specs.Visits.{time_rows}
use Rattle.target_map.specs.Kinds.{tile_sizes}
use Rattle.life_sets.proofs.beside.push_stores_into.Goals as goal

pub returns : goal.returns
returns c = λ cs so_far.
    let p = c.args.target.now.program.now in
    let m = c.args.target.now.mapping.now in
    let u = c.args.writer.now.visit in
    let v = c.args.point.now.visit in
    pushed_three cs (shared m u v) (other p u v) (not_before (tile_sizes m.kinds) (time_rows m u) (time_rows m v)) c.args.members.now c.push.new.self c.push-2.new.self c.push-3.new.self
    c.in_ok-shared.field-0 c.in_ok-other.field-0 c.in_ok-not_before.field-0 c.in_ok-shared.ensures c.in_ok-push.ensures c.in_ok-other.ensures c.in_ok-push-2.ensures
    (times_made m c.args.target.now.sizes.now u v (stamp_of c.args.writer.now.time) (stamp_of c.args.point.now.time) c.in_ok-not_before.field-0 c.requires.sizes c.requires.writer.time c.requires.point.time
    c.in_ok-not_before.ensures)
    c.in_ok-push-3.ensures so_far
