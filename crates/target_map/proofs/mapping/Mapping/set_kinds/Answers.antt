use Rattle.std.proofs.Common.{◌≡◌, ◌∙◌, true, refl, rules, sym, subst}
use Rattle.std.specs.List.{list_all}
use Rattle.target_map.specs.Kinds.{rises_from, is_sized}
use Rattle.target_map.specs.Settings.{TargetMapping, with_kinds, IsMapping, Fits}
use Rattle.target_map.proofs.Kept.{mapping_is, kinds_kept, kinds_fit}
use Rattle.target_map.proofs.mapping.Mapping.set_kinds.Goals as goal

pub invariant_of-self : goal.invariant_of-self
invariant_of-self c =
    let old : TargetMapping = record { kinds = c.self.inside.kinds; times = c.self.inside.times; storages = c.self.inside.storages; statements = c.self.inside.statements } in
    let order : rises_from 0 c.args.kinds.now ≡ true = search rules in
    let sizes : list_all is_sized c.args.kinds.now ≡ true = search rules in
    subst IsMapping (sym (mapping_is (with_kinds old c.args.kinds.now) c.from_vec.result c.new.result c.self.inside.storages c.self.inside.statements (c.from_vec.ensures ∙ c.in_ok-items.ensures.items) c.new.ensures refl refl))
    (kinds_kept old c.args.kinds.now c.self.invariant order sizes)

pub returns-clause-fits : goal.returns-clause-fits
returns-clause-fits c = λ p fits.
    let old : TargetMapping = record { kinds = c.self.inside.kinds; times = c.self.inside.times; storages = c.self.inside.storages; statements = c.self.inside.statements } in
    subst (Fits p) (sym (mapping_is (with_kinds old c.args.kinds.now) c.from_vec.result c.new.result c.self.inside.storages c.self.inside.statements (c.from_vec.ensures ∙ c.in_ok-items.ensures.items) c.new.ensures refl refl))
    (kinds_fit p old c.args.kinds.now (subst (Fits p) (sym c.self.view_is) fits))
