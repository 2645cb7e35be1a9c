-- Answers about rows, handed on as answers about polyhedra.
use Rattle.std.proofs.Common.{◌≡◌, Result, Ok, Err, IfOk, IfErr, refl, sym, subst}
use Rattle.az_lin.specs.Answers as rows
use Rattle.az_lin.specs.declared.fault.LinFault.{LinFault}
use Rattle.az_lin.specs.declared.fault.LinFault.TheVariants as lin
use Rattle.az_poly.specs.Answers.{IsExactly, IsRowFault, AnswersAs}
use Rattle.az_poly.specs.declared.fault.PolyFault.{PolyFault}
use Rattle.az_poly.specs.declared.fault.PolyFault.TheVariants.{Memory}

-- which faults there are
pub exact_fault : {A : Type 0} (fits : A → Type 0) (value : A) (answer : Result A LinFault) → rows.IsExactly fits value answer → IfErr answer IsRowFault
exact_fault fits value (Ok got) exact = tt
exact_fault fits value (Err lin.Entry) exact = tt
exact_fault fits value (Err (lin.NoInverse _)) exact = exact
exact_fault fits value (Err lin.Overflow) exact = exact
exact_fault fits value (Err lin.Memory) exact = tt

pub memory_fault : {A : Type 0} (answer : Result A LinFault) → IfErr answer (λ fault. fault ≡ lin.Memory) → IfErr answer IsRowFault
memory_fault (Ok got) h = tt
memory_fault (Err fault) h = subst IsRowFault (sym h) tt

-- what holds of the answer about rows
pub exactly_as : {A : Type 0} (fits : A → Type 0) (value : A) (answer : Result A LinFault) (result : Result A PolyFault)
    → rows.IsExactly fits value answer → AnswersAs answer result → IsExactly fits value result
exactly_as fits value (Ok got) result exact same = subst (IsExactly fits value) (sym same) exact
exactly_as fits value (Err lin.Entry) result exact same = subst (IsExactly fits value) (sym same) exact
exactly_as fits value (Err (lin.NoInverse _)) result exact same = absurd exact
exactly_as fits value (Err lin.Overflow) result exact same = absurd exact
exactly_as fits value (Err lin.Memory) result exact same = subst (IsExactly fits value) (sym same) tt

pub ok_as : {A : Type 0} (P : A → Type 0) (answer : Result A LinFault) (result : Result A PolyFault) → IfOk answer P → AnswersAs answer result → IfOk result P
ok_as P (Ok got) result holds same = subst (λ r. IfOk r P) (sym same) holds
ok_as P (Err lin.Entry) result holds same = subst (λ r. IfOk r P) (sym same) tt
ok_as P (Err (lin.NoInverse _)) result holds same = absurd same
ok_as P (Err lin.Overflow) result holds same = absurd same
ok_as P (Err lin.Memory) result holds same = subst (λ r. IfOk r P) (sym same) tt

pub memory_as : {A : Type 0} (answer : Result A LinFault) (result : Result A PolyFault) → IfErr answer (λ fault. fault ≡ lin.Memory) → AnswersAs answer result
    → IfErr result (λ fault. fault ≡ Memory)
memory_as (Ok got) result cause same = subst (λ r. IfErr r (λ fault. fault ≡ Memory)) (sym same) tt
memory_as (Err lin.Entry) result cause same = absurd (cc)
memory_as (Err (lin.NoInverse _)) result cause same = absurd same
memory_as (Err lin.Overflow) result cause same = absurd same
memory_as (Err lin.Memory) result cause same = subst (λ r. IfErr r (λ fault. fault ≡ Memory)) (sym same) refl

-- a refusal says nothing of the value
pub refused_as : {A : Type 0} (fits : A → Type 0) (value other : A) (answer : Result A LinFault) (fault : PolyFault)
    → rows.IsExactly fits value answer → AnswersAs answer (Err fault) → (fits other → fits value) → IsExactly fits other (Err fault)
refused_as fits value other (Ok got) fault exact same part = absurd (cc)
refused_as fits value other (Err lin.Entry) fault exact same part = subst (IsExactly fits other) (sym same) (λ all. exact (part all))
refused_as fits value other (Err (lin.NoInverse _)) fault exact same part = absurd same
refused_as fits value other (Err lin.Overflow) fault exact same part = absurd same
refused_as fits value other (Err lin.Memory) fault exact same part = subst (IsExactly fits other) (sym same) tt

pub found_as : {A : Type 0} (fits : A → Type 0) (value : A) (answer : Result A LinFault) (got : A)
    → rows.IsExactly fits value answer → AnswersAs answer (Ok got) → (got ≡ value) × fits value
found_as fits value answer got exact same = exactly_as fits value answer (Ok got) exact same
