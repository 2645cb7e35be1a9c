-- What a call answers that may find an entry out of range or too many pieces.
use Rattle.std.specs.Prelude.{◌≡◌, ◌<◌, ◌≤◌, List, length, Result, Ok, Err}
use Rattle.std.specs.List.{All}
use Rattle.az_lin.specs.Affine.{Polyhedron, HasEntries}
use Rattle.az_lin.specs.Negation.{negated}
use Rattle.az_lin.specs.declared.fault.LinFault.{LinFault}
use Rattle.az_lin.specs.declared.fault.LinFault.TheVariants as lin
use Rattle.az_lin.specs.declared.limit.Limit.TheVariants.{Pieces}
use Rattle.az_poly.specs.Operations.{pieces}
use Rattle.az_poly.specs.declared.fault.PolyFault.{PolyFault}
use Rattle.az_poly.specs.declared.fault.PolyFault.TheVariants.{Entry, Limit, Memory}

-- the faults of rows that come from the calls that are made here
abbrev pub IsRowFault : LinFault → Type 0
IsRowFault lin.Entry = Unit {0}
IsRowFault lin.Memory = Unit {0}
IsRowFault (lin.NoInverse _) = ⊥
IsRowFault lin.Overflow = ⊥

-- the same value, or the same fault
abbrev pub AnswersAs : {A : Type 0} → Result A LinFault → Result A PolyFault → Type 0
AnswersAs (Ok value) result = result ≡ Ok value
AnswersAs (Err lin.Entry) result = result ≡ Err Entry
AnswersAs (Err lin.Memory) result = result ≡ Err Memory
AnswersAs (Err (lin.NoInverse _)) result = ⊥
AnswersAs (Err lin.Overflow) result = ⊥

-- The value where its entries are in range, and else `Entry`; want of memory may stand for either.
abbrev pub IsExactly : {A : Type 0} → (A → Type 0) → A → Result A PolyFault → Type 0
IsExactly fits value (Ok got) = (got ≡ value) × fits value
IsExactly fits value (Err Entry) = fits value → ⊥
IsExactly fits value (Err (Limit _)) = ⊥
IsExactly fits value (Err Memory) = Unit {0}

-- the rows of a difference that no argument has already
abbrev pub HasEntryNegations : Polyhedron → Type 0
HasEntryNegations conj = All (λ row. HasEntries (negated row)) conj.rows

-- The pieces where there are at most 256 and their entries are in range.
abbrev pub IsDifference : Polyhedron → Polyhedron → Result (List Polyhedron) PolyFault → Type 0
IsDifference a b (Ok got) = (got ≡ pieces a b) × (length (pieces a b) ≤ 256) × HasEntryNegations b
IsDifference a b (Err Entry) = (length (pieces a b) ≤ 256) × (HasEntryNegations b → ⊥)
IsDifference a b (Err (Limit Pieces)) = 256 < length (pieces a b)
IsDifference a b (Err (Limit _)) = ⊥
IsDifference a b (Err Memory) = Unit {0}
