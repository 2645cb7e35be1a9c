-- Whole numbers in decimal at the front of a text. Each has one spelling: no leading zero, and no `-0`.
use Rattle.std.specs.Prelude.{◌≡◌, ℕ, ◌<◌, ◌^◌, ℤ, pos, negsuc, false, List, [], ◌∷◌, ◌++◌}
use Rattle.std.specs.Char.{is_ascii_digit}
use Rattle.std.specs.Fmt.{decimal, signed_decimal}

-- no digit follows
abbrev pub IsPastDigits : List ℕ → Type 0
IsPastDigits [] = Unit {0}
IsPastDigits (b ∷ rest) = is_ascii_digit b ≡ false

-- a number from 0 to 2^128 - 1, and what stands behind its digits
pub record BeginsWithNatural (text : List ℕ) (n : ℕ) (rest : List ℕ) : Type 0 where
  pub fits : n < 2 ^ 128
  pub whole : text ≡ decimal n ++ rest
  pub ended : IsPastDigits rest

-- the numbers from -2^127 to 2^127 - 1
abbrev pub Has128Bits : ℤ → Type 0
Has128Bits (pos n) = n < 2 ^ 127
Has128Bits (negsuc n) = n < 2 ^ 127

pub record BeginsWithInteger (text : List ℕ) (z : ℤ) (rest : List ℕ) : Type 0 where
  pub fits : Has128Bits z
  pub whole : text ≡ signed_decimal z ++ rest
  pub ended : IsPastDigits rest

-- What was written is read as the same number: a text begins with one number, spelled in one way.
abbrev pub NaturalsAreOne : Type 0
NaturalsAreOne = (text : List ℕ) (m n : ℕ) (rest later : List ℕ) → BeginsWithNatural text m rest → BeginsWithNatural text n later → (m ≡ n) × (rest ≡ later)

abbrev pub IntegersAreOne : Type 0
IntegersAreOne = (text : List ℕ) (y z : ℤ) (rest later : List ℕ) → BeginsWithInteger text y rest → BeginsWithInteger text z later → (y ≡ z) × (rest ≡ later)
