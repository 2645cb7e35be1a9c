use Rattle.std.proofs.Common.{◌≡◌, sym, subst, ap, ◌∙◌}
use Rattle.az_ast.specs.System.{System}
use Rattle.session_state.proofs.Kept.{unset_are}
use Rattle.session_state.specs.Settings.{AreSettings, unset}
use Rattle.session_state.proofs.session.fresh.Goals as goal

pub returns-clause-sound : goal.returns-clause-sound
returns-clause-sound c =
    let settings_are : c.from_vec-settings.result ≡ unset c.args.program = c.from_vec-settings.ensures ∙ (c.in_ok-unset.ensures ∙ ap unset c.program-2.ensures.value) in
    record {
      settings =
          subst (λ (p : System). AreSettings p c.from_vec-settings.result) (sym c.in-Ok.ensures.ok)
          (subst (AreSettings c.args.program) (sym settings_are) (unset_are c.args.program));
      mapping = c.new-2.ensures.fits c.in-Ok.current;
      verified = tt;
    }
