-- Decimals of one spelling: what `decimal` writes has no needless 0, and such digits are what it writes of their value.
use Rattle.std.proofs.Common.{◌≡◌, ℕ, zero, suc, ◌+◌, ◌-◌, ◌*◌, ◌/◌, ◌%◌, ◌^◌, ◌<◌, ◌≤◌, ◌≢◌, ◌∙◌, true, false, List, [], ◌∷◌, ◌++◌, take, drop, length, get_or, ℤ, pos, negsuc, neg_ℤ, refl, sym, ap, subst, arith, take-append-drop}
use Rattle.std.proofs.lemmas.Bool.Decides.{nat_tests}
use Rattle.std.proofs.lemmas.Fmt.{decimal_is_IsNumeral_wide, decimal_digit, decimal_step_wide, decimal_by_steps_wide}
use Rattle.std.proofs.lemmas.Int.Digits.{digits_value_more}
use Rattle.std.proofs.lemmas.List.{take_more, get_or_append_left, append_cancel_left, length-append}
use Rattle.std.proofs.lemmas.List.Elements.{All-from_recursion}
use Rattle.std.specs.List.{prefix_len}
use Rattle.std.proofs.Math.Seq.{take-length, take-append_seam}
use Rattle.std.specs.Char.{is_ascii_digit, digit_value}
use Rattle.std.specs.Fmt.{decimal, signed_decimal}
use Rattle.std.specs.Str.Parse.{AllDigits, digits_value}
use Rattle.az_text.specs.Tokens.{AllAre}
use Rattle.az_text.proofs.Digits.{digit_value_is, digit_range, digits_value-take-le}
use Rattle.az_text.proofs.Runs.{Stops, run_only, run_len, run_passes, run_stops}
use Rattle.grammar_rules.specs.Decimals.{IsPastDigits, BeginsWithNatural, Has128Bits, BeginsWithInteger, NaturalsAreOne, IntegersAreOne}

-- digits, at least one, with no needless 0
pub record IsPlain (ds : List ℕ) : Type 0 where
  pub digits : AllAre is_ascii_digit ds
  pub some : 0 < length ds
  pub plain : get_or ds 0 0 ≡ 48 → length ds ≡ 1

digit_test : (c : ℕ) → digit_value c < 10 → is_ascii_digit c ≡ true
digit_test c h = grind (arith, nat_tests)

all_digits : (ds : List ℕ) → AllDigits 10 ds → AllAre is_ascii_digit ds
all_digits [] h = tt
all_digits (d ∷ ds) h = (digit_test d h.0, all_digits ds h.1)

record IsLed (n : ℕ) (ds : List ℕ) : Type 0 where
  some : 0 < length ds
  led : get_or ds 0 0 ≡ 48 → n ≡ 0
  alone : n ≡ 0 → length ds ≡ 1

decimal_led : (n : ℕ) → n < 10 ^ 64 → IsLed n (decimal n)
decimal_led n small =
    decimal_by_steps_wide IsLed
    (λ n below. record { some = omega arith; led = λ e. omega (arith, e); alone = λ e. refl })
    (λ n ds above so_far.
    let some = so_far.some in
    let longer : 0 < length (ds ++ ((48 + n % 10) ∷ [])) = omega (arith, some, length-append ds ((48 + n % 10) ∷ [])) in
    record {
      some = longer;
      led = λ e. (let front : n / 10 ≡ 0 = so_far.led (sym (get_or_append_left ds ((48 + n % 10) ∷ []) 0 0 some) ∙ e) in absurd (omega (arith, above, front)));
      alone = λ e. absurd (omega (arith, above, e));
    })
    n small

pub decimal_plain : (n : ℕ) → n < 2 ^ 128 → IsPlain (decimal n)
decimal_plain n small =
    let fits : n < 10 ^ 64 = omega (arith, small) in
    let led = decimal_led n fits in
    record {
      digits = all_digits (decimal n) (decimal_is_IsNumeral_wide n fits).0.1;
      some = led.some;
      plain = λ e. led.alone (led.led e);
    }

pub value_of_decimal : (n : ℕ) → n < 2 ^ 128 → digits_value 10 (decimal n) ≡ n
value_of_decimal n small = (decimal_is_IsNumeral_wide n (omega (arith, small))).1

-- the first digits are what `decimal` writes of their value
record IsWritten (ds : List ℕ) (i : ℕ) : Type 0 where
  same : decimal (digits_value 10 (take i ds)) ≡ take i ds
  some : 1 < length ds → 0 < digits_value 10 (take i ds)

module _ (ds : List ℕ) (plain : IsPlain ds) (small : digits_value 10 ds < 10 ^ 64) where
  written_first : IsWritten ds 1
  written_first =
      let here : 0 < length ds = plain.some in
      let one_digit : take 1 ds ≡ get_or ds 0 0 ∷ [] = take_more ds 0 0 here in
      let digit : is_ascii_digit (get_or ds 0 0) ≡ true = All-from_recursion (λ b. is_ascii_digit b ≡ true) ds plain.digits 0 0 here in
      let range = digit_range (get_or ds 0 0) digit in
      let value_is : digit_value (get_or ds 0 0) + 48 ≡ get_or ds 0 0 = digit_value_is (get_or ds 0 0) digit in
      let value : digits_value 10 (take 1 ds) ≡ digit_value (get_or ds 0 0) = digits_value_more 10 ds 0 here ∙ (let e : 0 * 10 + digit_value (get_or ds 0 0) ≡ digit_value (get_or ds 0 0) = omega arith in e) in
      let low : digit_value (get_or ds 0 0) < 10 = omega (arith, range, value_is) in
      record {
        same = ap decimal value ∙ decimal_digit (digit_value (get_or ds 0 0)) low ∙ ap (λ d. d ∷ []) (let e : 48 + digit_value (get_or ds 0 0) ≡ get_or ds 0 0 = omega (arith, value_is) in e) ∙ sym one_digit;
        some = λ several.
            let led : get_or ds 0 0 ≢ 48 = λ e. (let alone = plain.plain e in omega (arith, alone, several)) in
            omega (arith, value, value_is, range, led);
      }

  written_more : (i : ℕ) → 0 < i → i < length ds → IsWritten ds i → IsWritten ds (i + 1)
  written_more i begun here so_far =
      let d = get_or ds i 0 in
      let v = digits_value 10 (take i ds) in
      let digit : is_ascii_digit d ≡ true = All-from_recursion (λ b. is_ascii_digit b ≡ true) ds plain.digits i 0 here in
      let range = digit_range d digit in
      let value_is : digit_value d + 48 ≡ d = digit_value_is d digit in
      let value : digits_value 10 (take (i + 1) ds) ≡ v * 10 + digit_value d = digits_value_more 10 ds i here in
      let front : 0 < v = so_far.some (omega (arith, begun, here)) in
      let all : digits_value 10 (take (i + 1) ds) ≤ digits_value 10 ds = digits_value-take-le (i + 1) ds in
      let n = digits_value 10 (take (i + 1) ds) in
      let above : 10 ≤ n = omega (arith, value, front) in
      let quotient : n / 10 ≡ v = omega (arith, value, value_is, range) in
      let last : 48 + n % 10 ≡ d = omega (arith, value, value_is, range) in
      record {
        same = decimal_step_wide n above (omega (arith, all, small)) ∙ ap (λ k. decimal k ++ ((48 + n % 10) ∷ [])) quotient ∙ ap (λ c. decimal v ++ (c ∷ [])) last
            ∙ ap (λ xs. xs ++ (d ∷ [])) so_far.same ∙ sym (take_more ds i 0 here);
        some = λ several. omega (arith, above);
      }

  written : (k : ℕ) → suc k ≤ length ds → IsWritten ds (suc k)
  written zero within = written_first
  written (suc k) within =
      let P : ℕ → Type 0 = λ i. IsWritten ds i in
      let next : suc k + 1 ≡ suc (suc k) = omega arith in
      subst P next (written_more (suc k) (omega arith) (omega (arith, within)) (written k (omega (arith, within))))

  pub plain_is_decimal : decimal (digits_value 10 ds) ≡ ds
  plain_is_decimal =
      let some = plain.some in
      let count : suc (length ds - 1) ≡ length ds = omega (arith, some) in
      let P : ℕ → Type 0 = λ i. IsWritten ds i in
      let all : IsWritten ds (length ds) = subst P count (written (length ds - 1) (omega (arith, some))) in
      let Q : List ℕ → Type 0 = λ xs. decimal (digits_value 10 xs) ≡ xs in
      subst Q (take-length ds) all.same

-- digits with what is past them stop there
past_stops : (rest : List ℕ) → IsPastDigits rest → Stops is_ascii_digit rest
past_stops [] h = tt
past_stops (b ∷ rest) h = h

-- the digits of a number at the front
pub natural_digits : (text : List ℕ) (n : ℕ) (rest : List ℕ) → BeginsWithNatural text n rest → prefix_len is_ascii_digit text ≡ length (decimal n)
natural_digits text n rest h =
    ap (prefix_len is_ascii_digit) h.whole ∙ run_len is_ascii_digit (decimal n) rest (decimal_plain n h.fits).digits (past_stops rest h.ended)

pub naturals_are_one : NaturalsAreOne
naturals_are_one text m n rest later one two =
    let p = decimal_plain m one.fits in
    let q = decimal_plain n two.fits in
    let same : decimal m ≡ decimal n = run_only is_ascii_digit (decimal n) later (decimal m) rest q.digits (past_stops later two.ended) p.digits (past_stops rest one.ended) (sym one.whole ∙ two.whole) in
    let values : m ≡ n = sym (value_of_decimal m one.fits) ∙ ap (digits_value 10) same ∙ value_of_decimal n two.fits in
    let joined : decimal n ++ rest ≡ decimal n ++ later = ap (λ ds. ds ++ rest) (sym same) ∙ sym one.whole ∙ two.whole in
    (values, append_cancel_left (decimal n) rest later joined)

pub digits_below_ten : (ds : List ℕ) → AllAre is_ascii_digit ds → AllDigits 10 ds
digits_below_ten [] h = tt
digits_below_ten (d ∷ ds) h =
    let value_is = digit_value_is d h.0 in
    let range = digit_range d h.0 in
    (omega (arith, value_is, range), digits_below_ten ds h.1)

-- the digits at the front of a text are a number, where they are plain and not too great
module _ (text : List ℕ) (len : ℕ) (is : len ≡ prefix_len is_ascii_digit text) where
  pub front_digits : AllAre is_ascii_digit (take len text)
  front_digits = let P : ℕ → Type 0 = λ n. AllAre is_ascii_digit (take n text) in subst P (sym is) (run_passes is_ascii_digit text)

  past : (rest : List ℕ) → Stops is_ascii_digit rest → IsPastDigits rest
  past [] h = tt
  past (b ∷ rest) h = h

  pub natural_begins : IsPlain (take len text) → digits_value 10 (take len text) < 2 ^ 128 → BeginsWithNatural text (digits_value 10 (take len text)) (drop len text)
  natural_begins plain small =
      let P : ℕ → Type 0 = λ n. Stops is_ascii_digit (drop n text) in
      record {
        fits = small;
        whole = sym (take-append-drop len text) ∙ ap (λ ds. ds ++ drop len text) (sym (plain_is_decimal (take len text) plain (omega (arith, small))));
        ended = past (drop len text) (subst P (sym is) (run_stops is_ascii_digit text));
      }

  -- and a number at the front has these digits
  pub same_digits : (n : ℕ) (rest : List ℕ) → BeginsWithNatural text n rest → take len text ≡ decimal n
  same_digits n rest h =
      ap (λ k. take k text) (is ∙ natural_digits text n rest h) ∙ ap (take (length (decimal n))) h.whole ∙ take-append_seam (decimal n) rest

  pub digits_plain : (n : ℕ) (rest : List ℕ) → BeginsWithNatural text n rest → IsPlain (take len text)
  digits_plain n rest h = subst IsPlain (sym (same_digits n rest h)) (decimal_plain n h.fits)

  pub digits_small : (n : ℕ) (rest : List ℕ) → BeginsWithNatural text n rest → digits_value 10 (take len text) < 2 ^ 128
  digits_small n rest h =
      let value : digits_value 10 (take len text) ≡ n = ap (digits_value 10) (same_digits n rest h) ∙ value_of_decimal n h.fits in
      let fits = h.fits in
      omega (arith, value, fits)

-- no digits begin with a sign
no_sign : (ds rest tail : List ℕ) → IsPlain ds → ds ++ rest ≡ 45 ∷ tail → ⊥
no_sign [] rest tail plain same = absurd (omega (arith, plain.some))
no_sign (d ∷ ds) rest tail plain same =
    let head : d ≡ 45 = cc in
    let range = digit_range d plain.digits.0 in
    omega (arith, head, range)

-- a number behind a sign, and one without
module _ (text tail : List ℕ) (sign : text ≡ 45 ∷ tail) where
  pub integer_below : (m : ℕ) (rest : List ℕ) → BeginsWithNatural tail m rest → 0 < m → m ≤ 2 ^ 127 → BeginsWithInteger text (neg_ℤ (pos m)) rest
  integer_below zero rest h some most = absurd (omega (arith, some))
  integer_below (suc k) rest h some most = record { fits = omega (arith, most); whole = sign ∙ ap (λ bytes. 45 ∷ bytes) h.whole; ended = h.ended }

  natural_behind : (z : ℤ) (rest : List ℕ) → BeginsWithInteger text z rest → (k : ℕ) × BeginsWithNatural tail (suc k) rest × (k < 2 ^ 127)
  natural_behind (pos n) rest h =
      let fits = h.fits in
      absurd (no_sign (decimal n) rest tail (decimal_plain n (omega (arith, fits))) (sym h.whole ∙ sign))
  natural_behind (negsuc k) rest h =
      let fits = h.fits in
      let same : 45 ∷ tail ≡ 45 ∷ (decimal (suc k) ++ rest) = sym sign ∙ h.whole in
      (k, record { fits = omega (arith, fits); whole = (cc); ended = h.ended }, fits)

  pub none_behind : ((n : ℕ) (rest : List ℕ) → BeginsWithNatural tail n rest → ⊥) → (z : ℤ) (rest : List ℕ) → BeginsWithInteger text z rest → ⊥
  none_behind none z rest h = let it = natural_behind z rest h in none (suc it.0) rest it.1

  pub none_below : (m : ℕ) (later : List ℕ) → BeginsWithNatural tail m later → ((0 < m) × (m ≤ 2 ^ 127) → ⊥) → (z : ℤ) (rest : List ℕ) → BeginsWithInteger text z rest → ⊥
  none_below m later here none z rest h =
      let it = natural_behind z rest h in
      let same : m ≡ suc it.0 = (naturals_are_one tail m (suc it.0) later rest here it.1).0 in
      let most = it.2 in
      none (omega (arith, same), omega (arith, same, most))

module _ (text : List ℕ) (unsigned : (tail : List ℕ) → text ≡ 45 ∷ tail → ⊥) where
  natural_here : (z : ℤ) (rest : List ℕ) → BeginsWithInteger text z rest → (n : ℕ) × BeginsWithNatural text n rest × (n < 2 ^ 127)
  natural_here (pos n) rest h = let fits = h.fits in (n, record { fits = omega (arith, fits); whole = h.whole; ended = h.ended }, fits)
  natural_here (negsuc k) rest h = absurd (unsigned (decimal (suc k) ++ rest) h.whole)

  pub none_here : ((n : ℕ) (rest : List ℕ) → BeginsWithNatural text n rest → ⊥) → (z : ℤ) (rest : List ℕ) → BeginsWithInteger text z rest → ⊥
  none_here none z rest h = let it = natural_here z rest h in none it.0 rest it.1

  pub none_above : (m : ℕ) (later : List ℕ) → BeginsWithNatural text m later → (m < 2 ^ 127 → ⊥) → (z : ℤ) (rest : List ℕ) → BeginsWithInteger text z rest → ⊥
  none_above m later here none z rest h =
      let it = natural_here z rest h in
      let same : m ≡ it.0 = (naturals_are_one text m it.0 later rest here it.1).0 in
      let most = it.2 in
      none (omega (arith, same, most))

pub integer_above : (text : List ℕ) (m : ℕ) (rest : List ℕ) → BeginsWithNatural text m rest → m < 2 ^ 127 → BeginsWithInteger text (pos m) rest
integer_above text m rest h most = record { fits = most; whole = h.whole; ended = h.ended }

pub integers_are_one : IntegersAreOne
integers_are_one text (pos m) (pos n) rest later one two =
    let p = one.fits in
    let q = two.fits in
    let both = naturals_are_one text m n rest later (record { fits = omega (arith, p); whole = one.whole; ended = one.ended }) (record { fits = omega (arith, q); whole = two.whole; ended = two.ended }) in
    (ap pos both.0, both.1)
integers_are_one text (pos m) (negsuc n) rest later one two =
    let p = one.fits in
    absurd (no_sign (decimal m) rest (decimal (suc n) ++ later) (decimal_plain m (omega (arith, p))) (sym one.whole ∙ two.whole))
integers_are_one text (negsuc m) (pos n) rest later one two =
    let q = two.fits in
    absurd (no_sign (decimal n) later (decimal (suc m) ++ rest) (decimal_plain n (omega (arith, q))) (sym two.whole ∙ one.whole))
integers_are_one text (negsuc m) (negsuc n) rest later one two =
    let p = one.fits in
    let q = two.fits in
    let same : 45 ∷ (decimal (suc m) ++ rest) ≡ 45 ∷ (decimal (suc n) ++ later) = sym one.whole ∙ two.whole in
    let tails : decimal (suc m) ++ rest ≡ decimal (suc n) ++ later = cc in
    let both = naturals_are_one (decimal (suc m) ++ rest) (suc m) (suc n) rest later (record { fits = omega (arith, p); whole = refl; ended = one.ended })
    (record { fits = omega (arith, q); whole = tails; ended = two.ended }) in
    let heads : m ≡ n = (let e = both.0 in omega (arith, e)) in
    (ap negsuc heads, both.1)
