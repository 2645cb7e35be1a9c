-- What a changing call answers: the stated program, certified; or its first reason; or that an entry of the result
-- is out of range; or the first limit that the result exceeds; or why the result isn't certified. They are looked
-- for in this order, and want of memory may stand for any answer.
use Rattle.std.specs.Prelude.{◌≡◌, ℕ, MatchOption, Option, Some, None, Result, Ok, Err}
use Rattle.az_lin.specs.declared.fault.LinFault.{LinFault}
use Rattle.az_lin.specs.declared.fault.LinFault.TheVariants as lin
use Rattle.az_ast.specs.Shapes.{limit_of}
use Rattle.az_ast.specs.System.{System}
use Rattle.az_ast.specs.declared.fault.ShapeFault.TheVariants as shape
use Rattle.az_ast.specs.declared.reason.Reason.{Reason as Why}
use Rattle.az_ast.specs.declared.reason.Reason.TheVariants as why
use Rattle.domain_check.specs.Promise.{Accepts, Refuses}
use Rattle.domain_check.specs.declared.fault.CertifyFault.{CertifyFault}
use Rattle.domain_check.specs.declared.fault.CertifyFault.TheVariants as certify
use Rattle.rewriting.specs.declared.fault.ChangeFault.{ChangeFault}
use Rattle.rewriting.specs.declared.fault.ChangeFault.TheVariants.{Reason, Certify, Overflow, Limit, Memory}

-- a fault of rows, of a map's inversion, and of a certification, as one of a change
abbrev pub of_rows : LinFault → ChangeFault
of_rows lin.Entry = Reason why.Entry
of_rows (lin.NoInverse evidence) = Reason (why.NoInverse evidence)
of_rows lin.Overflow = Overflow 0
of_rows lin.Memory = Memory

abbrev pub of_certification : CertifyFault → ChangeFault
of_certification (certify.No found) = Certify (certify.No found)
of_certification (certify.Overflow kind variable number) = Certify (certify.Overflow kind variable number)
of_certification certify.Entry = Certify certify.Entry
of_certification (certify.Limit limit) = Certify (certify.Limit limit)
of_certification certify.Memory = Memory

-- why the result isn't certified; want of memory is a fault of its own
abbrev pub Uncertified : System → CertifyFault → Type 0
Uncertified q (certify.No found) = Refuses q (certify.No found)
Uncertified q (certify.Overflow kind variable number) = Refuses q (certify.Overflow kind variable number)
Uncertified q certify.Entry = Refuses q certify.Entry
Uncertified q (certify.Limit limit) = Refuses q (certify.Limit limit)
Uncertified q certify.Memory = ⊥

-- for the stated result
abbrev pub Gives : System → Result System ChangeFault → Type 0
Gives q (Ok changed) = (changed ≡ q) × (limit_of q ≡ None) × Accepts q
Gives q (Err (Reason reason)) = ⊥
Gives q (Err (Certify fault)) = (limit_of q ≡ None) × Uncertified q fault
Gives q (Err (Overflow number)) = ⊥
Gives q (Err (Limit limit)) = limit_of q ≡ Some (shape.Limit limit)
Gives q (Err Memory) = Unit {0}

-- for the stated result, if its entries are in range
abbrev pub GivesIf : Type 0 → System → Result System ChangeFault → Type 0
GivesIf fits q (Ok changed) = fits × Gives q (Ok changed)
GivesIf fits q (Err (Reason reason)) = (fits → ⊥) × (reason ≡ why.Entry)
GivesIf fits q (Err (Certify fault)) = fits × Gives q (Err (Certify fault))
GivesIf fits q (Err (Overflow number)) = ⊥
GivesIf fits q (Err (Limit limit)) = fits × Gives q (Err (Limit limit))
GivesIf fits q (Err Memory) = Unit {0}

abbrev pub IsRefusedFor : Why → Result System ChangeFault → Type 0
IsRefusedFor reason (Ok changed) = ⊥
IsRefusedFor reason (Err (Reason other)) = other ≡ reason
IsRefusedFor reason (Err (Certify fault)) = ⊥
IsRefusedFor reason (Err (Overflow number)) = ⊥
IsRefusedFor reason (Err (Limit limit)) = ⊥
IsRefusedFor reason (Err Memory) = Unit {0}

-- for the first reason, if there is one
abbrev pub Unless : Option Why → (Result System ChangeFault → Type 0) → Result System ChangeFault → Type 0
Unless refusal answers result = MatchOption refusal (answers result) (λ reason. IsRefusedFor reason result)
