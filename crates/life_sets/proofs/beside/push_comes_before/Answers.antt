use Rattle.life_sets.specs.Cells.{other}
use Rattle.life_sets.proofs.Pushes.{times_made}
use Rattle.order_sets.specs.NotBefore.{not_before}
use Rattle.order_sets.specs.Rows.{stamp_of}
use Rattle.order_sets.specs.Visits.{time_rows}
use Rattle.order_sets.proofs.Making.{pushed_two}
use Rattle.target_map.specs.Kinds.{tile_sizes}
use Rattle.life_sets.proofs.beside.push_comes_before.Goals as goal

pub returns : goal.returns
returns c = λ cs so_far.
    let p = c.args.target.now.program.now in
    let m = c.args.target.now.mapping.now in
    let u = c.args.writer.now.visit in
    let v = c.args.reader.now in
    pushed_two cs (other p u v) (not_before (tile_sizes m.kinds) (time_rows m v) (time_rows m u)) c.args.members.now c.push.new.self c.push-2.new.self c.in_ok-other.field-0 c.in_ok-not_before.field-0
    c.in_ok-other.ensures c.in_ok-push.ensures
    (times_made m c.args.target.now.sizes.now v u (stamp_of c.args.time.now) (stamp_of c.args.writer.now.time) c.in_ok-not_before.field-0 c.requires.sizes c.requires.reader c.requires.writer.time
    c.in_ok-not_before.ensures)
    c.in_ok-push-2.ensures so_far
