use Rattle.tile_waves.specs.Inner.Listed.{AreListed}
use Rattle.tile_waves.proofs.listing.listed.Given as goal

abbrev pub invariant-variables : goal.invariant-variables
invariant-variables l = AreListed l.map.program l.map.mapping l.params l.place l.items.items
