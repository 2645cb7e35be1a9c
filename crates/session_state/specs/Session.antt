-- What the commands of a script work on, and what each leaves and says.
use Rattle.std.specs.Prelude.{◌≡◌, ℕ, List, All, Option, Some, None, IfSome, Result, Ok, Err}
use Rattle.std.specs.Borrow.{Bor}
use Rattle.std.specs.FinMap.{empty}
use Rattle.az_ast.specs.System.{System}
use Rattle.az_ast.specs.declared.reason.Reason.TheVariants.{NoProgram, NotCertified}
use Rattle.cert_text.specs.Lines.{IsOfProgram as SpeaksOf}
use Rattle.cert_text.specs.Versions.{IsVersion}
use Rattle.session_state.specs.Settings.{AreSettings, unset}
use Rattle.session_state.specs.Steps.{Step, some_or}
use Rattle.session_state.specs.declared.refusal.Refusal.TheVariants.{Command}
use Rattle.session_state.specs.declared.session.Loaded.{Loaded}
use Rattle.session_state.specs.declared.stop.Stop.{Stop}
use Rattle.session_state.specs.declared.verified.Verified.{Verified}
use Rattle.target_map.specs.Promise.{IsCertifiedMap}
use Rattle.target_map.specs.Settings.{TargetMapping, Fits, no_mapping}

-- nothing before a program is read
abbrev pub Session : Type 0
Session = Option Loaded

-- a program that was just read: no number is set, no table read, and nothing mapped or verified for it
abbrev pub fresh : System → Loaded
fresh p = record { source = p; current = p; settings = unset p; inputs = empty; mapping = no_mapping; verified = None }

-- Another program in the place of the current one: what was mapped and verified is given up, numbers and tables stand.
-- And another mapping in the place of the one that was there: what was verified is given up.
abbrev pub changed : Loaded → System → Loaded
changed loaded p = record loaded { current = p; mapping = no_mapping; verified = None }

abbrev pub mapped : Loaded → TargetMapping → Loaded
mapped loaded m = record loaded { mapping = m; verified = None }

-- the program, which nearly every command asks for before anything else
abbrev pub opened : Session → Step Loaded
opened session = some_or (Command NoProgram) session

-- the last yes, without which nothing is carried out and no certificate is written
abbrev pub verified_mapping : Loaded → Step Verified
verified_mapping loaded = some_or (Command NotCertified) loaded.verified

-- A yes to this program with this mapping: it is certified, and the certificate speaks of the program's variables.
pub record IsVerified (p : System) (m : TargetMapping) (verified : Verified) : Type 0 where
  pub certified : verified.certified ≡ record { program = p; mapping = m }
  pub promise : IsCertifiedMap p m
  pub version : IsVersion verified.certificate.version
  pub names : All (λ proved. SpeaksOf p proved.which) verified.certificate.proved

-- The numbers that are set are those of the program's parameters, what is mapped are its variables, and what is kept as
-- verified is this program with this mapping.
pub record IsOfProgram (loaded : Loaded) : Type 0 where
  pub settings : AreSettings loaded.current loaded.settings
  pub mapping : Fits loaded.current loaded.mapping
  pub verified : IfSome loaded.verified (IsVerified loaded.current loaded.mapping)

abbrev pub IsSound : Session → Type 0
IsSound None = Unit {0}
IsSound (Some loaded) = IsOfProgram loaded

-- what a command that is carried out leaves, and what stands under its line
pub record Carried : Type 0 where
  pub session : Session
  pub text : List ℕ

-- how a command ends that leaves this session
abbrev pub carried : Session → Result (List ℕ) Stop → Result Carried Stop
carried session (Ok text) = Ok (record { session = session; text = text })
carried session (Err stop) = Err stop

-- the same of what is lent
abbrev pub lent : {A : Type 0} → Result (Bor A) Stop → Result A Stop
lent (Ok x) = Ok x.now
lent (Err stop) = Err stop
