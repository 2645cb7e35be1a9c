-- Fields of a line, with one space between: words, and numbers in decimal.
use Rattle.std.specs.Prelude.{◌≡◌, ℕ, ◌<◌, ◌==◌, ◌^◌, ℤ, unsigned_abs, Bool, not, List, ◌∷◌, ◌++◌}
use Rattle.az_text.specs.Tokens.{AllAre}

abbrev pub is_in_word : ℕ → Bool
is_in_word byte = not (byte == 32)

-- a text without a space
abbrev pub IsWord : List ℕ → Type 0
IsWord text = AllAre is_in_word text

-- a field, a space, and what stands behind it
abbrev pub spaced : List ℕ → List ℕ → List ℕ
spaced first rest = first ++ (32 ∷ rest)

-- within ±(2^127 - 1)
abbrev pub IsWide : ℤ → Type 0
IsWide z = unsigned_abs z < 2 ^ 127

-- A line has one first field, so what was written is read as the same.
abbrev pub FieldsAreOne : Type 0
FieldsAreOne = (first other rest later : List ℕ) → IsWord first → IsWord other → spaced first rest ≡ spaced other later → (first ≡ other) × (rest ≡ later)
