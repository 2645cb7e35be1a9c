-- The steps by which the certificate is written, from the answers of the calls.
use Rattle.std.proofs.Common.{◌≡◌, ℕ, List, [], refl, sym, subst, ap, ◌∙◌}
use Rattle.std.specs.Prelude.{Option, Some, None, option_map, Result, Ok, Err}
use Rattle.az_ast.specs.declared.reason.Reason.TheVariants.{NotCertified}
use Rattle.az_desk.specs.Desk.{Seen}
use Rattle.az_desk.specs.declared.call.Call.{Call}
use Rattle.session_state.proofs.Taking.{stops_first, goes_on, alone_takes}
use Rattle.session_state.specs.Session.{Session, Carried, opened, verified_mapping}
use Rattle.session_state.specs.Steps.{Step, ◌>>=◌, Takes, TakesAlone, gives, some_or}
use Rattle.session_state.specs.Writings.{FileText, IsLeftWith, write_to}
use Rattle.session_state.specs.declared.refusal.Refusal.TheVariants.{Command}
use Rattle.session_state.specs.declared.session.Loaded.{Loaded}
use Rattle.session_state.specs.declared.stop.Stop.{Stop}
use Rattle.session_state.specs.declared.stop.Stop.TheVariants.{Refused, Fault, Memory}
use Rattle.session_state.specs.declared.verified.Verified.{Verified}
use Rattle.verify_commands.specs.Commands.{certificate_text, certificate_file, file_of, verify_target_mapping, write_certificate}
use Rattle.verify_commands.specs.Verification.{verification}

-- a verification in a session
module _ (loaded : Loaded) where
  abbrev keeps : Loaded → Verified → Step Carried
  keeps l verified = gives (record { session = Some (record l { verified = Some verified }); text = [] })

  pub unverified : (stop : Stop) → TakesAlone (verification loaded.current loaded.mapping) (Err stop) → TakesAlone (verify_target_mapping (Some loaded)) (Err stop)
  unverified stop h =
      goes_on (λ call. ⊥) (opened (Some loaded)) (λ l. verification l.current l.mapping >>= keeps l) loaded (Err stop) refl
      (stops_first (λ call. ⊥) (verification loaded.current loaded.mapping) (keeps loaded) stop h)

  abbrev carried_out : Verified → List ℕ → Result Carried Stop
  carried_out verified text = Ok (record { session = Some (record loaded { verified = Some verified }); text = text })

  pub yes_kept : (verified : Verified) (text : List ℕ) → TakesAlone (verification loaded.current loaded.mapping) (Ok verified) → text ≡ []
      → TakesAlone (verify_target_mapping (Some loaded)) (Ok (record { session = Some (record loaded { verified = Some verified }); text = text }))
  yes_kept verified text h none = (loaded, refl, (verified, h, ap (carried_out verified) none))

opened_is : (session : Session) (loaded : Loaded) → opened session (Ok loaded) → session ≡ Some loaded
opened_is None loaded h = cc
opened_is (Some other) loaded h = let same : loaded ≡ other = cc in ap Some (sym same)

kept_is : (kept : Option Verified) (verified : Verified) → some_or (Command NotCertified) kept (Ok verified) → kept ≡ Some verified
kept_is None verified h = cc
kept_is (Some other) verified h = let same : verified ≡ other = cc in ap Some (sym same)

module _ (session : Session) (name : List ℕ) where
  abbrev any : Call → Type 0
  any call = Unit {0}

  abbrev left : Step Carried
  left = gives (record { session = session; text = [] })

  abbrev puts : Step Carried
  puts = write_to name >>= (λ _. left)

  abbrev writes : Loaded → Verified → Step Carried
  writes loaded verified = certificate_text loaded.current verified.certificate >>= (λ text. puts)

  abbrev asks : Loaded → Step Carried
  asks loaded = verified_mapping loaded >>= writes loaded

  pub unopened : (stop : Stop) → TakesAlone (opened session) (Err stop) → Takes (write_certificate session name) (Err stop)
  unopened stop h = stops_first any (opened session) asks stop (alone_takes (opened session) (Err stop) h)

  module _ (loaded : Loaded) (is_open : opened session (Ok loaded)) where
    pub uncertified : (stop : Stop) → TakesAlone (verified_mapping loaded) (Err stop) → Takes (write_certificate session name) (Err stop)
    uncertified stop h = goes_on any (opened session) asks loaded (Err stop) is_open (stops_first any (verified_mapping loaded) (writes loaded) stop (alone_takes (verified_mapping loaded) (Err stop) h))

    module _ (verified : Verified) (is_kept : verified_mapping loaded (Ok verified)) where
      behind : (result : Result Carried Stop) → Takes (writes loaded verified) result → Takes (write_certificate session name) result
      behind result h = goes_on any (opened session) asks loaded result is_open (goes_on any (verified_mapping loaded) (writes loaded) verified result is_kept h)

      pub too_long : (stop : Stop) → TakesAlone (certificate_text loaded.current verified.certificate) (Err stop) → Takes (write_certificate session name) (Err stop)
      too_long stop h =
          behind (Err stop) (stops_first any (certificate_text loaded.current verified.certificate) (λ text. puts) stop (alone_takes (certificate_text loaded.current verified.certificate) (Err stop) h))

      module _ (text : List ℕ) (is_text : certificate_text loaded.current verified.certificate (Ok text)) where
        put : (result : Result Carried Stop) → Takes puts result → Takes (write_certificate session name) result
        put result h = behind result (goes_on any (certificate_text loaded.current verified.certificate) (λ text. puts) text result is_text h)

        pub unwritten : (stop : Stop) → Takes (write_to name) (Err stop) → Takes (write_certificate session name) (Err stop)
        unwritten stop h = put (Err stop) (stops_first any (write_to name) (λ _. left) stop h)

        abbrev carried_out_with : List ℕ → Result Carried Stop
        carried_out_with said = Ok (record { session = session; text = said })

        pub was_written : (said : List ℕ) → said ≡ [] → Takes (write_certificate session name) (Ok (record { session = session; text = said }))
        was_written said none = put (Ok (record { session = session; text = said })) (tt, tt, ap carried_out_with none)

        -- the file is the one that it is said to be
        pub file_is : certificate_file session name ≡ Some (record { name = name; bytes = text })
        file_is =
            ap (λ (s : Session). certificate_file s name) (opened_is session loaded is_open)
            ∙ (ap (option_map (file_of name loaded)) (kept_is loaded.verified verified is_kept)
            ∙ ap (λ (bytes : List ℕ). Some (record { name = name; bytes = bytes })) (sym is_text.0))

-- the desk where nothing was written
pub unmoved : {A : Type 0} (step : Step A) (file : Option FileText) (old : Seen) (stop : Stop) → TakesAlone step (Err stop) → IsLeftWith {A = List ℕ} file old (Err stop) old
unmoved step None old (Refused refusal) h = refl
unmoved step None old (Fault call) h = absurd h.0
unmoved step None old Memory h = refl
unmoved step (Some file) old (Refused refusal) h = refl
unmoved step (Some file) old (Fault call) h = absurd h.0
unmoved step (Some file) old Memory h = refl

-- and where the writing was the last call
pub moved_by_fault : (name bytes : List ℕ) (file : Option FileText) (old new : Seen) (stop : Stop) → file ≡ Some (record { name = name; bytes = bytes })
    → IsLeftWith {A = Unit {0}} (Some (record { name = name; bytes = bytes })) old (Err stop) new → IsLeftWith {A = List ℕ} file old (Err stop) new
moved_by_fault name bytes file old new stop is h =
    subst (λ (f : Option FileText). IsLeftWith {A = List ℕ} f old (Err stop) new) (sym is) (as_left stop h)
  where
    as_left : (s : Stop) → IsLeftWith {A = Unit {0}} (Some (record { name = name; bytes = bytes })) old (Err s) new → IsLeftWith {A = List ℕ} (Some (record { name = name; bytes = bytes })) old (Err s) new
    as_left (Refused refusal) g = g
    as_left (Fault call) g = g
    as_left Memory g = g

pub moved : (name bytes said : List ℕ) (file : Option FileText) (old new : Seen) → file ≡ Some (record { name = name; bytes = bytes })
    → IsLeftWith {A = Unit {0}} (Some (record { name = name; bytes = bytes })) old (Ok tt) new → IsLeftWith file old (Ok said) new
moved name bytes said file old new is h = subst (λ (f : Option FileText). IsLeftWith f old (Ok said) new) (sym is) h
