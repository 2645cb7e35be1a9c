use Rattle.tile_waves.proofs.Earlier.{before_is_earlier}
use Rattle.tile_waves.proofs.laws.before_is_earlier.Goals as goal

pub returns : goal.returns
returns c = before_is_earlier
