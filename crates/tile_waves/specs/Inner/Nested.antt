-- Items in order, as waves of tiles of instances.
use Rattle.std.specs.Prelude.{List, map, reverse}
use Rattle.execution.specs.declared.instance.Instance.{Instance}
use Rattle.tile_waves.specs.Inner.Cuts.{groups_of}
use Rattle.tile_waves.specs.Inner.Items.{instances_of}
use Rattle.tile_waves.specs.Waves.{AllWaves}
use Rattle.tile_waves.specs.declared.item.Item.{Item}
use Rattle.tile_waves.specs.declared.level.Level.TheVariants.{Wave, Tile}

abbrev pub tiles_of : List Item → List (List Instance)
tiles_of items = map instances_of (groups_of Tile (reverse items))

abbrev pub waves_of : List Item → AllWaves
waves_of items = map tiles_of (groups_of Wave (reverse items))
