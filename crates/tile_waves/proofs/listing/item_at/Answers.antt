use Rattle.std.proofs.Common.{◌++◌, List, ap, ◌∙◌}
use Rattle.std.specs.Prelude.{ℤ}
use Rattle.target_map.specs.Times.{time_of}
use Rattle.tile_waves.proofs.PointLists.{far_is}
use Rattle.tile_waves.proofs.listing.item_at.Goals as goal

pub returns-in-Err-clause-cause : goal.returns-in-Err-clause-cause
returns-in-Err-clause-cause c =
    far_is c.args.variable.time.now (time_of c.args.variable.mapping.now c.args.variable.number) c.as_slice.result.now (c.args.variable.params.now ++ c.args.point.now) c.in-Err.fault
    c.requires.time
    (c.as_slice.ensures.value ∙ (c.in_ok-extend_from_slice.ensures.items ∙ ap (λ (xs : List ℤ). xs ++ c.args.point.now) c.in_ok-z.ensures.items))
    c.in-Err.ensures.cause
