-- Words about inner functions, which no public contract cites.
use Rattle.std.specs.Prelude.{ℕ, ◌+◌, ◌-◌, ◌^◌, min, nat_lt, if◌then◌else◌, List, Option, Some, None}
use Rattle.std.specs.Option.{option_map_or}
use Rattle.az_ast.specs.System.{System}
use Rattle.domain_check.specs.declared.fault.CertifyFault.{CertifyFault}
use Rattle.domain_check.specs.declared.fault.CertifyFault.TheVariants as certify
use Rattle.program_commands.specs.Programs.{check_refusal}
use Rattle.rewriting.specs.Named.{number_of}
use Rattle.rewriting.specs.declared.fault.ChangeFault.{ChangeFault}
use Rattle.rewriting.specs.declared.fault.ChangeFault.TheVariants as change
use Rattle.session_state.specs.declared.refusal.Refusal.{Refusal}
use Rattle.session_state.specs.declared.refusal.Refusal.TheVariants.{Command, Overflow, Limited}
use Rattle.session_state.specs.declared.refusal.Spot.TheVariants.{Invert}

-- why a change that isn't made is refused; variables have the numbers that they have in this program
abbrev pub change_refusal : System → ChangeFault → Option Refusal
change_refusal p (change.Reason reason) = Some (Command reason)
change_refusal p (change.Certify fault) = check_refusal p fault
change_refusal p (change.Overflow number) = Some (Overflow Invert)
change_refusal p (change.Limit limit) = Some (Limited limit)
change_refusal p change.Memory = None

-- the number that a variable had before another one went; numbers have 32 bits
abbrev pub number_before : ℕ → ℕ → ℕ
number_before gone x = if nat_lt x gone then x else min (x + 1) (2 ^ 32 - 1)

abbrev pub fault_before : ℕ → CertifyFault → CertifyFault
fault_before gone (certify.No found) = certify.No (record found { variable = number_before gone found.variable })
fault_before gone (certify.Overflow kind variable number) = certify.Overflow kind (number_before gone variable) number
fault_before gone certify.Entry = certify.Entry
fault_before gone (certify.Limit limit) = certify.Limit limit
fault_before gone certify.Memory = certify.Memory

-- the fault of leaving out the variable with this name
abbrev pub certified_before : ℕ → ChangeFault → ChangeFault
certified_before gone (change.Reason reason) = change.Reason reason
certified_before gone (change.Certify fault) = change.Certify (fault_before gone fault)
certified_before gone (change.Overflow number) = change.Overflow number
certified_before gone (change.Limit limit) = change.Limit limit
certified_before gone change.Memory = change.Memory

abbrev pub change_before : System → List ℕ → ChangeFault → ChangeFault
change_before p name fault = option_map_or (λ gone. certified_before gone fault) (number_of p name) fault
