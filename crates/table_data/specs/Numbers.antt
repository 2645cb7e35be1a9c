-- How a field says a whole number: an optional minus sign and 1 to 20 decimal digits, with the value in 64 bits. Zeros in
-- front are allowed, and so is a minus before zero.
use Rattle.std.specs.Prelude.{◌≡◌, ℕ, ◌≤◌, ◌⊎◌, List, ◌∷◌, length, ℤ, pos, neg_ℤ}
use Rattle.std.specs.Str.Parse.{IsNumeral, digits_value}
use Rattle.az_ast.specs.Operators.{IsWord}

abbrev pub IsUnsigned : List ℕ → ℤ → Type 0
IsUnsigned digits z = IsNumeral 10 digits × (length digits ≤ 20) × (z ≡ pos (digits_value 10 digits))

abbrev pub IsNumber : List ℕ → ℤ → Type 0
IsNumber field z = IsWord z × (IsUnsigned field z ⊎ ((digits : List ℕ) × (field ≡ 45 ∷ digits) × IsUnsigned digits (neg_ℤ z)))
