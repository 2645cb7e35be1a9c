-- What a field must look like before it is read as a number.
use Rattle.std.specs.Prelude.{◌≡◌, ℕ, ◌≤◌, List, length, drop, cond, slice_index}
use Rattle.std.specs.Str.Parse.{starts_with_minus}

-- few enough bytes behind the minus sign, and no plus sign
abbrev pub HasForm : List ℕ → Type 0
HasForm field = (slice_index field 0 ≡ 43 → ⊥) × (length (drop (cond (starts_with_minus field) 1 0) field) ≤ 20)
