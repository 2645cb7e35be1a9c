use Rattle.std.proofs.Common.{◌≡◌, ◌∙◌, None, refl, ap, sym, subst}
use Rattle.target_map.specs.Refusals.{order_refusal}
use Rattle.target_map.specs.Settings.{TargetMapping, with_statements, IsMapping, Fits}
use Rattle.target_map.proofs.Kept.{mapping_is, none_is, statements_kept, statements_fit}
use Rattle.target_map.proofs.mapping.Mapping.set_order.Goals as goal

pub invariant_of-self : goal.invariant_of-self
invariant_of-self c =
    let old : TargetMapping = record { kinds = c.self.inside.kinds; times = c.self.inside.times; storages = c.self.inside.storages; statements = c.self.inside.statements } in
    let accepted : order_refusal c.args.program.now c.args.variables.now ≡ None = sym c.in_ok-refusal.ensures.ok ∙ none_is c.in_ok-refusal.refusal c.in_default.not-Some in
    subst IsMapping (sym (mapping_is (with_statements old c.args.variables.now) c.self.inside.kinds c.self.inside.times c.self.inside.storages c.in_ok-statements.statements refl refl refl c.in_ok-statements.ensures))
    (statements_kept c.args.program.now old c.args.variables.now accepted c.rules.ensures c.self.invariant)

pub returns-clause-fits : goal.returns-clause-fits
returns-clause-fits c =
    let old : TargetMapping = record { kinds = c.self.inside.kinds; times = c.self.inside.times; storages = c.self.inside.storages; statements = c.self.inside.statements } in
    let accepted : order_refusal c.args.program.now c.args.variables.now ≡ None = sym c.in_ok-refusal.ensures.ok ∙ none_is c.in_ok-refusal.refusal c.in_default.not-Some in
    subst (Fits c.args.program.now) (sym (mapping_is (with_statements old c.args.variables.now) c.self.inside.kinds c.self.inside.times c.self.inside.storages c.in_ok-statements.statements refl refl refl c.in_ok-statements.ensures))
    (statements_fit c.args.program.now old c.args.variables.now accepted (subst (Fits c.args.program.now) (sym c.self.view_is) c.requires.fits))
