use Rattle.std.proofs.Common.{◌≡◌, ◌∙◌, None, refl, ap, sym, subst}
use Rattle.target_map.specs.Refusals.{time_refusal}
use Rattle.target_map.specs.Settings.{TargetMapping, with_time, IsMapping, Fits}
use Rattle.target_map.proofs.Kept.{mapping_is, none_is, time_kept, time_fits}
use Rattle.target_map.proofs.mapping.Mapping.set_space_time.Goals as goal

pub invariant_of-self-2 : goal.invariant_of-self-2
invariant_of-self-2 c =
    let old : TargetMapping = record { kinds = c.self.inside.kinds; times = c.self.inside.times; storages = c.self.inside.storages; statements = c.self.inside.statements } in
    let accepted : time_refusal c.args.program.now old.kinds c.args.variable c.args.map ≡ None =
    ap (λ kinds. time_refusal c.args.program.now kinds c.args.variable c.args.map) (sym c.as_slice.ensures) ∙ sym c.in_ok-refusal.ensures.ok ∙ none_is c.in_ok-refusal.refusal c.in_default.not-Some in
    subst IsMapping (sym (mapping_is (with_time old c.args.variable c.args.map) c.self.inside.kinds c.set.new.self c.self.inside.storages c.self.inside.statements refl c.in_ok-set.ensures.ok refl refl))
    (time_kept c.args.program.now old c.args.variable c.args.map accepted c.self.invariant)

pub returns-clause-fits : goal.returns-clause-fits
returns-clause-fits c =
    let old : TargetMapping = record { kinds = c.self.inside.kinds; times = c.self.inside.times; storages = c.self.inside.storages; statements = c.self.inside.statements } in
    let accepted : time_refusal c.args.program.now old.kinds c.args.variable c.args.map ≡ None =
    ap (λ kinds. time_refusal c.args.program.now kinds c.args.variable c.args.map) (sym c.as_slice.ensures) ∙ sym c.in_ok-refusal.ensures.ok ∙ none_is c.in_ok-refusal.refusal c.in_default.not-Some in
    subst (Fits c.args.program.now) (sym (mapping_is (with_time old c.args.variable c.args.map) c.self.inside.kinds c.set.new.self c.self.inside.storages c.self.inside.statements refl c.in_ok-set.ensures.ok refl refl))
    (time_fits c.args.program.now old c.args.variable c.args.map accepted (subst (Fits c.args.program.now) (sym c.self.view_is) c.requires.fits))
