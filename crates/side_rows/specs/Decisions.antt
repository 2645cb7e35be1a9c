-- Whether a number in two parts is an entry of a row.
use Rattle.std.specs.Prelude.{◌≡◌, Option, Some, None, if◌then◌else◌, ℤ}
use Rattle.side_rows.specs.Entries.{is_out}
use Rattle.side_rows.specs.Totals.{number_of}

-- the number, where it is in range
abbrev pub Decides : ℤ → ℤ → Option ℤ → Type 0
Decides high low result = (number : ℤ) → number ≡ number_of high low → result ≡ (if is_out number then None else Some number)
