-- The value of few digits is small.
use Rattle.std.proofs.Common.{ℕ, zero, suc, ◌^◌, ◌<◌, ◌≤◌, List, [], ◌∷◌, length, take, arith, length-take}
use Rattle.std.proofs.lemmas.Str.Parse.{digits_value_short, numerals_by_value, tells_digits}
use Rattle.std.specs.Char.{is_ascii_digit, digit_value}
use Rattle.std.specs.Prelude.{IsTrue}
use Rattle.std.specs.Str.Parse.{AllDigits, digits_value}
use Rattle.az_text.specs.Tokens.{AllAre}
use Rattle.az_text.proofs.Digits.{digit_value_is, digit_range}

digit_below : (b : ℕ) → IsTrue (is_ascii_digit b) → digit_value b < 10
digit_below b h = let range = digit_range b h in omega (arith, digit_value_is b h)

first_digits : (i : ℕ) (ds : List ℕ) → AllAre is_ascii_digit ds → AllDigits 10 (take i ds)
first_digits zero ds all = tt
first_digits (suc i) [] all = tt
first_digits (suc i) (d ∷ ds) all = (digit_below d all.0, first_digits i ds all.1)

pub small : (ds : List ℕ) (i : ℕ) → AllAre is_ascii_digit ds → length ds ≤ 19 → digits_value 10 (take i ds) < 10 ^ 19
small ds i all few =
    digits_value_short (numerals_by_value (AllDigits 10) tells_digits) (take i ds) 19 (first_digits i ds all)
    (omega (arith, length-take i ds))
