use Rattle.std.proofs.Common.{sym, subst}
use Rattle.target_map.specs.Settings.{IsMapping}
use Rattle.tile_waves.specs.Waves.{AreWaves}
use Rattle.tile_waves.proofs.Answered.{waves_are, waves_unrefused}
use Rattle.tile_waves.proofs.ordering.waves.Goals as goal

pub returns : goal.returns
returns c =
    let p = c.args.map.now.program in
    let m = c.args.map.now.mapping in
    let keeps : IsMapping m = subst IsMapping c.mapping.ensures.value c.keeps.ensures in (
      subst (AreWaves p m c.args.params.now) (sym c.in_ok-list.ensures)
          (waves_are p m c.args.params.now keeps c.mapping.ensures.certified.complete c.in-Ok.items.items c.sort.new.items.items c.in-Ok.ensures.ok c.sort.ensures.same c.in_ok-sort.ensures.sorted),
      waves_unrefused p m c.args.params.now keeps c.mapping.ensures.certified.complete c.in-Ok.items.items c.sort.new.items.items c.in-Ok.ensures.ok c.sort.ensures.same c.in_ok-sort.ensures.sorted,
    )
