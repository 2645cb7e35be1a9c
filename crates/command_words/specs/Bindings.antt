-- Bindings: `NAME=INTEGER` gives a parameter its number, `NAME@FILE` an input its table.
use Rattle.std.specs.Prelude.{◌≡◌, ◌⊎◌, ℕ, ◌≤◌, List, [], ◌∷◌, ◌++◌, length, ℤ, pos, neg_ℤ}
use Rattle.std.specs.Str.Parse.{digits_value}
use Rattle.az_text.specs.Tokens.{IsWord, IsNumber}
use Rattle.command_words.specs.declared.binding.Binding.{Binding}
use Rattle.command_words.specs.declared.binding.Binding.TheVariants.{Parameter, Table}

-- 1 to 19 digits, and what they say
pub record IsMagnitude (digits : List ℕ) (n : ℕ) : Type 0 where
  pub digits_only : IsNumber digits
  pub few : length digits ≤ 19
  pub value : n ≡ digits_value 10 digits

abbrev pub IsInteger : List ℕ → ℤ → Type 0
IsInteger bytes number =
    (digits : List ℕ) × (n : ℕ) × IsMagnitude digits n
    × (((bytes ≡ digits) × (number ≡ pos n)) ⊎ ((bytes ≡ 45 ∷ digits) × (number ≡ neg_ℤ (pos n))))

abbrev pub IsBinding : List ℕ → Binding → Type 0
IsBinding word (Parameter name number) = (digits : List ℕ) × (word ≡ name ++ 61 ∷ digits) × IsWord name × IsInteger digits number
IsBinding word (Table name file) = (word ≡ name ++ 64 ∷ file) × IsWord name × (file ≡ [] → ⊥)
