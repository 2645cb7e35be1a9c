use Rattle.std.proofs.Common.{◌≡◌, take}
use Rattle.std.specs.Prelude.{map, Some}
use Rattle.data_commands.proofs.parameters.all_set.Given as goal

abbrev pub invariant-settings : goal.invariant-settings
invariant-settings l = map Some l.values.items ≡ take l.setting-index l.settings
