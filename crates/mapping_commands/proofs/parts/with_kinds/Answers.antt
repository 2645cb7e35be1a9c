use Rattle.std.proofs.Common.{sym, subst}
use Rattle.target_map.specs.Settings.{Fits}
use Rattle.mapping_commands.proofs.parts.with_kinds.Goals as goal

pub returns-in-Ok-clause-fits : goal.returns-in-Ok-clause-fits
returns-in-Ok-clause-fits c = λ p fits. c.set_kinds.ensures.fits p (subst (Fits p) (sym c.in_ok-mapping.ensures.ok) fits)
