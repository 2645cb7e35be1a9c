-- The commands of scripts that verify the mapping and write the certificate of the last yes.
use Rattle.std.specs.Prelude.{◌≡◌, ℕ, List, [], Option, Some, None, option_map, IsSomeAnd, Ok, Err}
use Rattle.az_ast.specs.System.{System}
use Rattle.az_lin.specs.declared.limit.Limit.{Limit}
use Rattle.cert_text.specs.Answers.{Writes}
use Rattle.cert_text.specs.Lines.{text_of}
use Rattle.cert_text.specs.declared.certificate.Certificate.{Certificate}
use Rattle.cert_text.specs.declared.fault.CertFault.TheVariants as fault
use Rattle.map_verify.specs.Promise.{IsAccepted}
use Rattle.session_state.specs.Session.{Session, Carried, opened, verified_mapping}
use Rattle.session_state.specs.Steps.{Step, ◌>>=◌, gives}
use Rattle.session_state.specs.Writings.{FileText, write_to}
use Rattle.session_state.specs.declared.refusal.Refusal.TheVariants.{Limited}
use Rattle.session_state.specs.declared.session.Loaded.{Loaded}
use Rattle.session_state.specs.declared.stop.Stop.TheVariants.{Refused, Fault, Memory}
use Rattle.session_state.specs.declared.verified.Verified.{Verified}
use Rattle.verify_commands.specs.Verification.{verification}

-- the yes is kept
abbrev pub verify_target_mapping : Session → Step Carried
verify_target_mapping session =
    opened session >>= (λ loaded.
    verification loaded.current loaded.mapping >>= (λ verified.
    gives (record { session = Some (record loaded { verified = Some verified }); text = [] })))

-- a yes is kept, and its certificate is one of the program and the mapping as they stand
abbrev pub HasCertificate : Session → Type 0
HasCertificate None = ⊥
HasCertificate (Some loaded) = IsSomeAnd loaded.verified (λ verified. IsAccepted loaded.current loaded.mapping verified.certificate)

-- the text of a certificate, if it has no more bytes than a file may have
abbrev pub certificate_text : System → Certificate → Step (List ℕ)
certificate_text p certificate (Ok text) = Writes p certificate (Ok text)
certificate_text p certificate (Err (Refused refusal)) = (limit : Limit) × Writes p certificate (Err (fault.Limit limit)) × (refusal ≡ Limited limit)
certificate_text p certificate (Err (Fault call)) = ⊥
certificate_text p certificate (Err Memory) = ⊥

abbrev pub write_certificate : Session → List ℕ → Step Carried
write_certificate session file =
    opened session >>= (λ loaded.
    verified_mapping loaded >>= (λ verified.
    certificate_text loaded.current verified.certificate >>= (λ text.
    write_to file >>= (λ _.
    gives (record { session = session; text = [] })))))

-- the file that it writes
abbrev pub file_of : List ℕ → Loaded → Verified → FileText
file_of file loaded verified = record { name = file; bytes = text_of loaded.current verified.certificate }

abbrev pub certificate_file : Session → List ℕ → Option FileText
certificate_file None file = None
certificate_file (Some loaded) file = option_map (file_of file loaded) loaded.verified
