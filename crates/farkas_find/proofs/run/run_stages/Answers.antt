use Rattle.std.proofs.Common.{◌≡◌, arith, length, refl}
use Rattle.farkas_find.specs.declared.trail.Stage.{Stage}
use Rattle.farkas_find.specs.Stages.{first_stage}
use Rattle.farkas_find.proofs.Staged.{stands_first, stands_next}
use Rattle.farkas_find.proofs.run.run_stages.Goals as goal

pub stages-init : goal.stages-init
stages-init c =
    let given = c.args.rows.items in
    let stage : Stage = record { rows = c.from_vec.result; next = c.len-next.result; steps = c.new.result; trail = c.new-2.result } in
    let count : c.len-next.result ≡ length given = omega (arith, c.len-next.ensures, c.args.rows.ok.0) in
    let is : stage ≡ first_stage given = rw (c.from_vec.ensures, count, c.new.ensures, c.new-2.ensures) refl in
    stands_first c.args.kept c.args.width given stage is c.requires.widths c.requires.few

pub stages-smaller : goal.stages-smaller
stages-smaller c =
    let follows = rw c.in-Next.is at c.in_ok-finished.ensures in
    let next = stands_next c.args.kept c.args.width c.args.rows.items c.stages.number c.stages.stage c.in-Next.next c.stages.invariant follows in
    omega (arith, next.live)

pub stages-preserved : goal.stages-preserved
stages-preserved c =
    let follows = rw c.in-Next.is at c.in_ok-finished.ensures in
    stands_next c.args.kept c.args.width c.args.rows.items c.stages.number c.stages.stage c.in-Next.next c.stages.invariant follows
