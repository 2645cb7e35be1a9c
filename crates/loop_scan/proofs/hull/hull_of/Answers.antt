use Rattle.std.proofs.Common.{◌∙◌, ◌++◌, ◌∷◌, [], ap, sym, subst, map, take, List, Option}
use Rattle.std.specs.Global.{Vec}
use Rattle.std.proofs.lemmas.List.{map_more}
use Rattle.loop_scan.specs.declared.range.Range.{Range}
use Rattle.loop_scan.specs.Nest.Answered.{ranges_of}
use Rattle.loop_scan.specs.Nest.Joined.{IsHullOf, IsBoxOver}
use Rattle.loop_scan.proofs.Lists.{mapped_at}
use Rattle.loop_scan.proofs.hull.hull_of.Goals as goal

pub with_box-requires-clause-one : goal.with_box-requires-clause-one
with_box-requires-clause-one c =
    mapped_at (IsBoxOver c.args.width) ranges_of c.args.boxes.now c.boxes.one-index c.one-item.result c.boxes-test.true c.one-item.is c.requires

pub boxes-preserved : goal.boxes-preserved
boxes-preserved c =
    let boxes = c.args.boxes.now in
    let i = c.boxes.one-index in
    let more = map_more ranges_of boxes i c.one-item.result c.boxes-test.true
    ∙ ap (λ (o : Option (Vec Range)). map ranges_of (take i boxes) ++ ranges_of o ∷ []) (sym c.one-item.is) in
    record {
      over = c.in_ok-hull.ensures.over;
      joins = subst (λ (bs : List (Option (List Range))). IsHullOf c.args.width bs (ranges_of c.in_ok-hull.hull)) (sym more)
          (c.in_ok-hull.ensures.joins (map ranges_of (take i boxes)) c.boxes.invariant.joins);
    }
