use Rattle.std.proofs.Common.{◌<◌, length, arith, pos}
use Rattle.az_lin.specs.declared.step.Step.{Step}
use Rattle.farkas_find.proofs.Renumbering.{Renumbered-yes, Renumbered-no}
use Rattle.farkas_find.proofs.prune.needed_steps.Goals.{then-flags-place+in_ok-push-2, else-flags-place}
use Rattle.farkas_find.proofs.prune.needed_steps.Goals as goal

pub steps-preserved : goal.steps-preserved
steps-preserved c =
    let none : Step = record { a = pos 0; i = 0; b = pos 0; j = 0; g = pos 0 } in
    let inside : c.steps.place < length c.args.flags.now = omega (arith, c.steps-test.true, c.requires.flags) in
    elim c.if-flags-place.branch [
      | then-flags-place+in_ok-push-2 w ↦
          (let made = rw w.as_slice.ensures.value at w.renumbered.ensures in
          rw (w.kept-is, w.next-is)
          (Renumbered-yes c.args.given c.args.flags.now c.args.steps.now c.steps.kept.items w.push-then-flags-place.new.self.items c.steps.numbers.items c.push.new.self.items
          c.steps.next c.steps.place none w.renumbered.result c.steps.invariant inside c.steps-test.true w.if-flags-place.true c.requires.order c.in_ok-push.ensures.items made
          w.in_ok-push-2.ensures.items))
      | else-flags-place w ↦
          rw (w.kept-is, w.next-is)
          (Renumbered-no c.args.given c.args.flags.now c.args.steps.now c.steps.kept.items c.steps.numbers.items c.push.new.self.items c.steps.next c.steps.place
          c.steps.invariant inside c.steps-test.true w.if-flags-place.false c.in_ok-push.ensures.items)
    ]
