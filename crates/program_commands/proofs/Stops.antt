-- What stops a program from being read, from the answers of the calls.
use Rattle.std.proofs.Common.{◌≡◌, ℕ, List, Err, subst, sym}
use Rattle.az_ast.specs.System.{System}
use Rattle.alphabets_read.specs.Answers.{IsFaultOf}
use Rattle.alphabets_read.specs.declared.fault.ReadFault.{ReadFault}
use Rattle.domain_check.specs.Promise.{Refuses}
use Rattle.domain_check.specs.declared.fault.CertifyFault.{CertifyFault}
use Rattle.session_state.specs.Steps.{TakesAlone, IsStopFor}
use Rattle.session_state.specs.declared.stop.Stop.{Stop}
use Rattle.session_state.specs.declared.stop.Stop.TheVariants.{Refused, Fault, Memory}
use Rattle.program_commands.specs.Programs.{text_refusal, program_in, check_refusal, certified}

pub unread_stops : (file text : List ℕ) (why : ReadFault) (stop : Stop) → IsFaultOf text why → IsStopFor (text_refusal file why) stop → TakesAlone (program_in file text) (Err stop)
unread_stops file text why (Refused refusal) h is = (why, h, is)
unread_stops file text why (Fault call) h is = absurd is
unread_stops file text why Memory h is = tt

uncertified : (p : System) (why : CertifyFault) (stop : Stop) → Refuses p why → IsStopFor (check_refusal p why) stop → TakesAlone (certified p) (Err stop)
uncertified p why (Refused refusal) h is = (why, h, is)
uncertified p why (Fault call) h is = absurd is
uncertified p why Memory h is = tt

-- of a program that is handed back
pub uncertified_stops : (p q : System) (why : CertifyFault) (stop : Stop) → q ≡ p → Refuses p why → IsStopFor (check_refusal q why) stop → TakesAlone (certified p) (Err stop)
uncertified_stops p q why stop same h is = uncertified p why stop h (subst (λ (r : System). IsStopFor (check_refusal r why) stop) same is)
