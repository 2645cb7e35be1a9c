-- What follows from an exact answer.
use Rattle.std.proofs.Common.{◌≡◌, Result, Ok, Err, IfOk, subst, sym}
use Rattle.az_lin.specs.Answers.{IsExactly}
use Rattle.az_lin.specs.declared.fault.LinFault.{LinFault}
use Rattle.az_lin.specs.declared.fault.LinFault.TheVariants.{Entry, NoInverse, Overflow, Memory}

-- what the value has, a found value has
pub ok_from_exactly : {A : Type 0} (fits : A → Type 0) (value : A) (P : A → Type 0) (answer : Result A LinFault)
    → IsExactly fits value answer → P value → IfOk answer P
ok_from_exactly fits value P (Ok got) exact holds = subst P (sym exact.0) holds
ok_from_exactly fits value P (Err fault) exact holds = tt

-- a refusal is handed on where what is refused has to fit
pub handed_on : {A B : Type 0} (fits : A → Type 0) (value : A) (fits' : B → Type 0) (value' : B) (fault : LinFault)
    → IsExactly fits value (Err fault) → (fits' value' → fits value) → IsExactly fits' value' (Err fault)
handed_on fits value fits' value' Entry exact part = λ all. exact (part all)
handed_on fits value fits' value' (NoInverse _) exact part = exact
handed_on fits value fits' value' Overflow exact part = exact
handed_on fits value fits' value' Memory exact part = tt

-- and of the value that is found alone
pub ok_law : {A : Type 0} (value : A) (P : A → Type 0) (answer : Result A LinFault) → IfOk answer (λ got. got ≡ value) → P value → IfOk answer P
ok_law value P (Ok got) is holds = subst P (sym is) holds
ok_law value P (Err fault) is holds = tt
