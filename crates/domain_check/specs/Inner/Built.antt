-- What a call answers that builds a formula or a list of them from rows that may leave the range.
use Rattle.std.specs.Prelude.{map, Result, Ok, Err}
use Rattle.formula_refute.specs.Claims.{claim}
use Rattle.domain_check.specs.Checks.{Checks}
use Rattle.domain_check.specs.declared.build.BuildFault.{BuildFault}
use Rattle.domain_check.specs.declared.build.BuildFault.TheVariants.{Entry, Memory}
use Rattle.domain_check.specs.declared.checks.Checks.{Checks as Built}

abbrev pub Says : Type 0 → BuildFault → Type 0
Says fits Entry = fits → ⊥
Says fits Memory = Unit {0}

-- what was wanted, where what is made on the way fits, and else `Entry`
abbrev pub Builds : {A : Type 0} → Type 0 → (A → Type 0) → Result A BuildFault → Type 0
Builds fits IsWanted (Ok built) = IsWanted built × fits
Builds fits IsWanted (Err fault) = Says fits fault

abbrev pub checks_of : Built → Checks
checks_of built = record { kind = built.kind; width = built.width; claims = map claim built.formulas.items }
