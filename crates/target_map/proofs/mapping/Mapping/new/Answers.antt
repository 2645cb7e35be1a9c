use Rattle.std.proofs.Common.{sym, subst}
use Rattle.target_map.specs.Settings.{TargetMapping, no_mapping, IsMapping, Fits}
use Rattle.target_map.proofs.Kept.{mapping_is, nothing_kept, nothing_fits}
use Rattle.target_map.proofs.mapping.Mapping.new.Goals as goal

pub invariant_of-result : goal.invariant_of-result
invariant_of-result c =
    subst IsMapping (sym (mapping_is no_mapping c.new.result c.new-2.result c.new-3.result c.new-4.result c.new.ensures c.new-2.ensures c.new-3.ensures c.new-4.ensures)) nothing_kept

pub returns-clause-fits : goal.returns-clause-fits
returns-clause-fits c = λ p.
    subst (Fits p) (sym (mapping_is no_mapping c.new.result c.new-2.result c.new-3.result c.new-4.result c.new.ensures c.new-2.ensures c.new-3.ensures c.new-4.ensures)) (nothing_fits p)
