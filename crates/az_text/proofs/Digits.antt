-- The value of decimal digits, read from the left.
use Rattle.std.proofs.Common.{◌≡◌, ℕ, ◌+◌, ◌-◌, ◌*◌, ◌<◌, ◌≤◌, true, List, [], ◌∷◌, ◌++◌, take, drop, length, get_or, refl, sym, ap, ◌∙◌, arith, take-append-drop}
use Rattle.std.proofs.lemmas.Bool.Decides.{nat_tests}
use Rattle.std.proofs.lemmas.Int.Digits.{digits_value_more}
use Rattle.std.proofs.lemmas.List.Elements.{All-from_recursion}
use Rattle.std.specs.Char.{is_ascii_digit, digit_value}
use Rattle.std.specs.Str.Parse.{digits_value, digits_value_after}
use Rattle.az_text.specs.Tokens.{AllAre}

pub digit_value_is : (b : ℕ) → is_ascii_digit b ≡ true → digit_value b + 48 ≡ b
digit_value_is b h = grind (arith, nat_tests)

pub digit_range : (b : ℕ) → is_ascii_digit b ≡ true → (48 ≤ b) × (b ≤ 57)
digit_range b h = (grind (arith, nat_tests), grind (arith, nat_tests))

after-append : (n : ℕ) (xs ys : List ℕ) → digits_value_after 10 n (xs ++ ys) ≡ digits_value_after 10 (digits_value_after 10 n xs) ys
after-append n [] ys = refl
after-append n (x ∷ xs) ys = after-append (n * 10 + digit_value x) xs ys

after-ge : (n : ℕ) (ds : List ℕ) → n ≤ digits_value_after 10 n ds
after-ge n [] = omega arith
after-ge n (d ∷ ds) = omega (arith, after-ge (n * 10 + digit_value d) ds)

-- the first digits give no more than all
pub digits_value-take-le : (i : ℕ) (ds : List ℕ) → digits_value 10 (take i ds) ≤ digits_value 10 ds
digits_value-take-le i ds =
    let all : digits_value 10 ds ≡ digits_value_after 10 (digits_value 10 (take i ds)) (drop i ds)
    = ap (digits_value 10) (sym (take-append-drop i ds)) ∙ after-append 0 (take i ds) (drop i ds) in
    omega (arith, all, after-ge (digits_value 10 (take i ds)) (drop i ds))

-- one digit more
pub digits_value_step : (ds : List ℕ) (i : ℕ) → AllAre is_ascii_digit ds → i < length ds → digits_value 10 (take (i + 1) ds) ≡ 10 * digits_value 10 (take i ds) + (get_or ds i 0 - 48)
digits_value_step ds i digits within =
    let passes : is_ascii_digit (get_or ds i 0) ≡ true = All-from_recursion (λ b. is_ascii_digit b ≡ true) ds digits i 0 within in
    let digit = digit_value_is (get_or ds i 0) passes in
    omega (arith, digits_value_more 10 ds i within, digit)
