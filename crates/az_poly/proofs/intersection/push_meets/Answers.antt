use Rattle.std.proofs.Common.{ap, sym, ◌∙◌, subst}
use Rattle.az_lin.specs.Affine.{Polyhedron, IsOver}
use Rattle.az_poly.specs.Operations.{both}
use Rattle.az_lin.proofs.Lists.{append-take-more}
use Rattle.az_poly.proofs.intersection.push_meets.Goals as goal

pub meet_conjs-requires : goal.meet_conjs-requires
meet_conjs-requires c =
    sym (subst (IsOver c.args.first.now.width) (sym c.second-item.is) (c.requires c.seconds.second-index c.second-item.result c.seconds-test.true))

pub seconds-preserved : goal.seconds-preserved
seconds-preserved c =
    let meet_first : Polyhedron → Polyhedron = λ second. both c.args.first.now second in
    append-take-more meet_first c.args.seconds.now c.seconds.second-index c.second-item.result c.in_ok-meet_conjs.field-0
    c.args.met.now.items c.seconds.met.items c.push.new.self.items c.seconds-test.true c.seconds.invariant
    (c.in_ok-meet_conjs.ensures.ok ∙ ap meet_first c.second-item.is) c.in_ok-push.ensures.items
