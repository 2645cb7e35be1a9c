-- Each command is carried out or refused, and not both, and leaves one thing.
use Rattle.std.proofs.Common.{◌≡◌, ◌≢◌, ℕ, List, [], sym, ap, ap₂, ◌∙◌, arith}
use Rattle.std.specs.Prelude.{Some, None, option_map, Result, Ok, Err}
use Rattle.az_ast.specs.System.{System}
use Rattle.az_ast.specs.declared.reason.Reason.TheVariants.{NotCertified}
use Rattle.cert_text.specs.declared.certificate.Certificate.{Certificate}
use Rattle.map_verify.proofs.OneVerdict.{one_verdict}
use Rattle.map_verify.specs.declared.fault.VerifyFault.{VerifyFault}
use Rattle.map_verify.specs.declared.fault.VerifyFault.TheVariants as fault
use Rattle.map_verify.specs.declared.verdict.Verdict.{Verdict}
use Rattle.map_verify.specs.declared.verdict.Verdict.TheVariants.{Yes}
use Rattle.session_state.proofs.Once.{IsOne, NotBoth, one_then, not_both_then, one_answer, not_both_answers, one_of_some, not_both_of_some, one_nothing, not_both_unless, one_opened, not_both_opened}
use Rattle.session_state.specs.Session.{Session, Carried, verified_mapping}
use Rattle.session_state.specs.Steps.{Step, ◌>>=◌, gives, unless}
use Rattle.session_state.specs.Writings.{write_to}
use Rattle.session_state.specs.declared.refusal.Refusal.TheVariants.{Command}
use Rattle.session_state.specs.declared.session.Loaded.{Loaded}
use Rattle.session_state.specs.declared.verified.Verified.{Verified}
use Rattle.target_map.specs.Pair.{MappedProgram}
use Rattle.target_map.specs.Refusals.{unmapped_from}
use Rattle.target_map.specs.Settings.{TargetMapping}
use Rattle.verify_commands.specs.Commands.{certificate_text, verify_target_mapping, write_certificate}
use Rattle.verify_commands.specs.Verification.{verdict_refusal, decided, verification}

abbrev made_of : MappedProgram → Certificate → Verified
made_of certified certificate = record { certified = certified; certificate = certificate }

module _ (p : System) (m : TargetMapping) where
  abbrev yes : Verified → Result Verdict VerifyFault
  yes verified = Ok (Yes verified.certified verified.certificate)

  one_decided : IsOne (decided p m)
  one_decided x y h k =
      let same : yes y ≡ yes x = one_verdict p m (yes x) (yes y) h k (λ e. cc) (λ e. cc) in
      let certified : x.certified ≡ y.certified = cc in
      let certificate : x.certificate ≡ y.certificate = cc in
      ap₂ made_of certified certificate

  not_both_decided : NotBoth (decided p m)
  not_both_decided x refusal h (verdict, k, is) =
      let told : verdict ≢ Err fault.Memory = λ e. (let none : None ≡ Some refusal = sym (ap (verdict_refusal p) e) ∙ is in cc) in
      let same : verdict ≡ yes x = one_verdict p m (yes x) verdict h k told (λ e. cc) in
      let none : None ≡ Some refusal = sym (ap (verdict_refusal p) same) ∙ is in
      cc

  abbrev completes : Step (Unit {0})
  completes = unless (option_map Command (unmapped_from m 0 p.variables))

  one_verification : IsOne (verification p m)
  one_verification = one_then completes (λ _. decided p m) (one_nothing completes) (λ _. one_decided)

  not_both_verification : NotBoth (verification p m)
  not_both_verification = not_both_then completes (λ _. decided p m) (one_nothing completes) (not_both_unless (option_map Command (unmapped_from m 0 p.variables))) (λ _. not_both_decided)

module _ (p : System) (certificate : Certificate) where
  one_certificate : IsOne (certificate_text p certificate)
  one_certificate x y h k = h.0 ∙ sym k.0

  not_both_certificate : NotBoth (certificate_text p certificate)
  not_both_certificate x refusal h (limit, k, is) =
      let few = h.1 in
      let many = k.1 in
      omega (arith, few, many)

module _ (session : Session) where
  abbrev keeps : Loaded → Verified → Step Carried
  keeps loaded verified = gives (record { session = Some (record loaded { verified = Some verified }); text = [] })

  abbrev verifies : Loaded → Step Carried
  verifies loaded = verification loaded.current loaded.mapping >>= keeps loaded

  pub one_verify : IsOne (verify_target_mapping session)
  one_verify =
      one_opened session verifies (λ loaded.
      one_then (verification loaded.current loaded.mapping) (keeps loaded) (one_verification loaded.current loaded.mapping) (λ verified. one_answer _))

  pub not_both_verify : NotBoth (verify_target_mapping session)
  not_both_verify =
      not_both_opened session verifies (λ loaded.
      not_both_then (verification loaded.current loaded.mapping) (keeps loaded) (one_verification loaded.current loaded.mapping) (not_both_verification loaded.current loaded.mapping) (λ verified. not_both_answers _))

module _ (session : Session) (file : List ℕ) where
  abbrev left : Step Carried
  left = gives (record { session = session; text = [] })

  abbrev puts : Step Carried
  puts = write_to file >>= (λ _. left)

  abbrev writes : Loaded → Verified → Step Carried
  writes loaded verified = certificate_text loaded.current verified.certificate >>= (λ text. puts)

  abbrev asks : Loaded → Step Carried
  asks loaded = verified_mapping loaded >>= writes loaded

  one_put : IsOne puts
  one_put = one_then (write_to file) (λ _. left) (one_nothing (write_to file)) (λ _. one_answer _)

  not_both_put : NotBoth puts
  not_both_put = not_both_then (write_to file) (λ _. left) (one_nothing (write_to file)) (λ x refusal h k. k) (λ _. not_both_answers _)

  one_writes : (loaded : Loaded) (verified : Verified) → IsOne (writes loaded verified)
  one_writes loaded verified = one_then (certificate_text loaded.current verified.certificate) (λ text. puts) (one_certificate loaded.current verified.certificate) (λ text. one_put)

  not_both_writes : (loaded : Loaded) (verified : Verified) → NotBoth (writes loaded verified)
  not_both_writes loaded verified =
      not_both_then (certificate_text loaded.current verified.certificate) (λ text. puts) (one_certificate loaded.current verified.certificate) (not_both_certificate loaded.current verified.certificate) (λ text. not_both_put)

  pub one_write : IsOne (write_certificate session file)
  one_write =
      one_opened session asks (λ loaded.
      one_then (verified_mapping loaded) (writes loaded) (one_of_some (Command NotCertified) loaded.verified) (one_writes loaded))

  pub not_both_write : NotBoth (write_certificate session file)
  not_both_write =
      not_both_opened session asks (λ loaded.
      not_both_then (verified_mapping loaded) (writes loaded) (one_of_some (Command NotCertified) loaded.verified) (not_both_of_some (Command NotCertified) loaded.verified) (not_both_writes loaded))
