use Rattle.std.proofs.Common.{◌≡◌, rules, subst, sym, ap, ◌∙◌, All}
use Rattle.az_lin.specs.Affine.{IsCoordinate}
use Rattle.tile_waves.specs.Inner.Listed.{instance, IsNear, IsTooFar}
use Rattle.tile_waves.proofs.PointLists.{listing_start, listing_step, point_near, too_many, too_far}
use Rattle.tile_waves.proofs.listing.push_points.Goals as goal

pub points-init : goal.points-init
points-init c = record {
  width = search rules;
  room = search rules;
  listing = listing_start c.args.variable.mapping.now c.args.variable.params.now c.args.variable.number c.args.items.now.items c.args.scanner.to_come;
  few = c.requires.few;
}

pub returns-then-len-ge-MOST_INSTANCES-clause-cause :
    goal.returns-then-len-ge-MOST_INSTANCES-clause-cause
returns-then-len-ge-MOST_INSTANCES-clause-cause c =
    too_many c.args.variable.mapping.now c.args.variable.params.now c.args.variable.number c.args.items.now.items c.args.scanner.to_come c.points.items.items c.points.scanner.to_come c.advance.new.scanner.to_come
    c.advance.new.point.items c.points.invariant.listing (search rules) (search rules)

pub item_at-requires-clause-point : goal.item_at-requires-clause-point
item_at-requires-clause-point c =
    let same : c.as_slice.result.now ≡ c.advance.new.point.items = c.as_slice.ensures.value in
    subst (All IsCoordinate) (sym same)
    (point_near c.args.variable.mapping.now c.args.variable.params.now c.args.variable.number c.args.items.now.items c.args.scanner.to_come c.points.items.items c.points.scanner.to_come
    c.advance.new.scanner.to_come c.advance.new.point.items c.points.invariant.listing (search rules) c.args.scanner.width c.requires.points)

pub returns-in-Err-clause-cause : goal.returns-in-Err-clause-cause
returns-in-Err-clause-cause c =
    let same : c.as_slice.result.now ≡ c.advance.new.point.items = c.as_slice.ensures.value in
    too_far c.args.variable.mapping.now c.args.variable.params.now c.args.variable.number c.args.items.now.items c.args.scanner.to_come c.points.items.items c.points.scanner.to_come
    c.advance.new.scanner.to_come c.advance.new.point.items c.points.invariant.listing (search rules) c.in-Err.fault
    (subst (λ k. IsTooFar (IsNear c.args.variable.mapping.now c.args.variable.params.now (instance c.args.variable.number k)) c.in-Err.fault) same c.in-Err.ensures.cause)

pub points-preserved : goal.points-preserved
points-preserved c =
    let same : c.as_slice.result.now ≡ c.advance.new.point.items = c.as_slice.ensures.value in
    record {
      width = search rules;
      room = search rules;
      listing = listing_step c.args.variable.mapping.now c.args.variable.params.now c.args.variable.number c.args.items.now.items c.args.scanner.to_come c.points.items.items c.points.scanner.to_come
          c.advance.new.scanner.to_come c.advance.new.point.items c.points.invariant.listing (search rules) c.in-Ok.item c.push.new.self.items c.in-Ok.ensures.keys
          (c.in-Ok.ensures.instance ∙ ap (instance c.args.variable.number) same)
          (subst (λ k. IsNear c.args.variable.mapping.now c.args.variable.params.now (instance c.args.variable.number k)) same c.in-Ok.ensures.near)
          (search rules);
      few = search rules;
    }
