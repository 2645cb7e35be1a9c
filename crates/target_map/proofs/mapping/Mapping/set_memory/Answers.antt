use Rattle.std.proofs.Common.{◌≡◌, ◌∙◌, None, refl, ap, sym, subst}
use Rattle.target_map.specs.Refusals.{others_in, storage_refusal, storage_refusal_beside}
use Rattle.target_map.specs.Settings.{TargetMapping, with_storage, IsMapping, Fits}
use Rattle.target_map.specs.declared.storage.Storage.{Storage}
use Rattle.target_map.proofs.Kept.{mapping_is, none_is, storage_kept, storage_fits}
use Rattle.target_map.proofs.mapping.Mapping.set_memory.Goals as goal

pub invariant_of-self-2 : goal.invariant_of-self-2
invariant_of-self-2 c =
    let p = c.args.program.now in
    let x = c.args.variable in
    let old : TargetMapping = record { kinds = c.self.inside.kinds; times = c.self.inside.times; storages = c.self.inside.storages; statements = c.self.inside.statements } in
    let storage : Storage = record { space = c.args.space; map = c.args.map; factors = c.in_ok-factors.factors } in
    let accepted : storage_refusal p old x storage ≡ None =
    ap (λ count. storage_refusal_beside (others_in old.storages storage.space x count) p x storage) (sym c.variable_count-count.ensures.value)
    ∙ ap (λ other. storage_refusal_beside other p x storage) (sym c.others_in-other.ensures) ∙ sym c.in_ok-refusal.ensures.ok ∙ none_is c.in_ok-refusal.refusal c.in_default.not-Some in
    subst IsMapping (sym (mapping_is (with_storage old x storage) c.self.inside.kinds c.self.inside.times c.set.new.self c.self.inside.statements refl refl c.in_ok-set.ensures.ok refl))
    (storage_kept p old x storage accepted c.self.invariant (subst (Fits p) (sym c.self.view_is) c.requires.fits))

pub returns-clause-fits : goal.returns-clause-fits
returns-clause-fits c =
    let p = c.args.program.now in
    let x = c.args.variable in
    let old : TargetMapping = record { kinds = c.self.inside.kinds; times = c.self.inside.times; storages = c.self.inside.storages; statements = c.self.inside.statements } in
    let storage : Storage = record { space = c.args.space; map = c.args.map; factors = c.in_ok-factors.factors } in
    let accepted : storage_refusal p old x storage ≡ None =
    ap (λ count. storage_refusal_beside (others_in old.storages storage.space x count) p x storage) (sym c.variable_count-count.ensures.value)
    ∙ ap (λ other. storage_refusal_beside other p x storage) (sym c.others_in-other.ensures) ∙ sym c.in_ok-refusal.ensures.ok ∙ none_is c.in_ok-refusal.refusal c.in_default.not-Some in
    subst (Fits p) (sym (mapping_is (with_storage old x storage) c.self.inside.kinds c.self.inside.times c.set.new.self c.self.inside.statements refl refl c.in_ok-set.ensures.ok refl))
    (storage_fits p old x storage accepted (subst (Fits p) (sym c.self.view_is) c.requires.fits))
