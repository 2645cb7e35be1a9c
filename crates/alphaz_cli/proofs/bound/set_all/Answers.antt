use Rattle.std.proofs.Common.{◌≡◌, ◌∙◌, length, rules, sym, subst}
use Rattle.std.proofs.lemmas.List.{take_at}
use Rattle.session_state.proofs.Each.{each_keeps}
use Rattle.session_state.proofs.Kept.{unset_are}
use Rattle.session_state.specs.Settings.{AreSettings, unset}
use Rattle.alphaz_cli.proofs.BoundKept.{setting_keeps}
use Rattle.alphaz_cli.specs.Bound.{set_bound}
use Rattle.alphaz_cli.proofs.bound.set_all.Goals as goal

pub returns-clause-set : goal.returns-clause-set
returns-clause-set c =
    let p = c.args.program.now in
    let new = c.set_each.new.settings in
    let first : c.deref_mut.result.now ≡ unset p = search rules in
    let start : AreSettings p c.deref_mut.result.now = subst (AreSettings p) (sym first) (unset_are p) in
    let are : AreSettings p new = each_keeps (set_bound p) (AreSettings p) (setting_keeps p) c.args.bindings.now c.deref_mut.result.now new c.in_ok-set_each.ensures start in
    let whole : length c.deref_mut.result.now ≡ c.in_ok-settings.settings.len = search rules in
    subst (AreSettings p) (sym (c.from_vec.ensures ∙ take_at new _ c.in_ok-settings.settings.len (are.each ∙ (sym start.each ∙ whole)))) are
