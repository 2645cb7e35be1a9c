use Rattle.std.proofs.Common.{◌≡◌, ◌++◌, List, sym, ap, subst, ◌∙◌, rules}
use Rattle.std.specs.Prelude.{ℤ, All}
use Rattle.az_lin.specs.Affine.{IsCoordinate}
use Rattle.tile_waves.specs.Keys.{total}
use Rattle.tile_waves.specs.Inner.Columns.{column}
use Rattle.tile_waves.specs.declared.column.Column.TheVariants.{Tile}
use Rattle.tile_waves.proofs.Columns.{tiles_small, wave_made}
use Rattle.tile_waves.proofs.key.wave_key.Goals as goal

pub total-requires : goal.total-requires
total-requires c =
    let tiles : c.deref.result.now ≡ column Tile c.kinds-kinds.result.now c.args.times.now
    = c.deref.ensures.value ∙ (c.in_ok-push.ensures ∙ ap (λ (none : List ℤ). none ++ column Tile c.kinds-kinds.result.now c.args.times.now) c.new-tiles.ensures.items) in
    subst (All IsCoordinate) (sym tiles) (tiles_small c.kinds-kinds.result.now c.args.times.now c.requires)

pub returns : goal.returns
returns c =
    wave_made c.args.mapping.now c.args.times.now c.kinds-kinds.result.now c.kinds-kinds.ensures.value _ c.push.new.key.items _ c.push-2.new.key.items c.push-3.new.self.items _ c.total.result
    c.new-tiles.ensures.items c.in_ok-push.ensures c.new-key.ensures.items c.in_ok-push-2.ensures (c.total.ensures ∙ ap total c.deref.ensures.value) (search rules) c.from_vec.ensures
