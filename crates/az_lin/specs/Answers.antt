-- What a call that may find an entry out of range answers.
use Rattle.std.specs.Prelude.{◌≡◌, Result, Ok, Err}
use Rattle.az_lin.specs.declared.fault.LinFault.{LinFault}
use Rattle.az_lin.specs.declared.fault.LinFault.TheVariants.{Entry, NoInverse, Overflow, Memory}

-- The value where its entries are in range, and else `Entry`; want of memory may stand for either.
abbrev pub IsExactly : {A : Type 0} → (A → Type 0) → A → Result A LinFault → Type 0
IsExactly fits value (Ok got) = (got ≡ value) × fits value
IsExactly fits value (Err Entry) = fits value → ⊥
IsExactly fits value (Err (NoInverse _)) = ⊥
IsExactly fits value (Err Overflow) = ⊥
IsExactly fits value (Err Memory) = Unit {0}
