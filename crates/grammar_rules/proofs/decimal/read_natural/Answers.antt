use Rattle.std.proofs.Common.{◌≡◌, ◌<◌, ◌^◌, ℕ, List, true≢false, take, subst, sym, refl}
use Rattle.std.specs.Str.Parse.{digits_value}
use Rattle.std.specs.Char.{is_ascii_digit}
use Rattle.az_text.specs.Tokens.{AllAre}
use Rattle.grammar_rules.specs.Decimals.{BeginsWithNatural}
use Rattle.grammar_rules.proofs.DecimalLaws.{IsPlain, front_digits, natural_begins, digits_plain, digits_small}
use Rattle.grammar_rules.proofs.decimal.read_natural.Goals as goal

pub returns-then-not-is_plain : goal.returns-then-not-is_plain
returns-then-not-is_plain c = λ n rest begins.
    let line = c.args.line.now in
    let plain : IsPlain c.split_at.result.0.now = subst IsPlain (sym c.split_at.ensures.front) (digits_plain line c.digits_len-len.result c.digits_len-len.ensures.passing n rest begins) in
    absurd (true≢false (sym (c.if-not-is_plain.ensures.1 (plain.some, plain.plain))))

pub value_of-requires-clause-digits : goal.value_of-requires-clause-digits
value_of-requires-clause-digits c =
    let D : List ℕ → Type 0 = λ ds. AllAre is_ascii_digit ds in
    subst D (sym c.split_at.ensures.front) (front_digits c.args.line.now c.digits_len-len.result c.digits_len-len.ensures.passing)

pub returns-in-Some : goal.returns-in-Some
returns-in-Some c =
    let line = c.args.line.now in
    let len = c.digits_len-len.result in
    let front = c.split_at.ensures.front in
    let D : List ℕ → Type 0 = λ ds. AllAre is_ascii_digit ds in
    let V : List ℕ → Type 0 = λ ds. digits_value 10 ds < 2 ^ 128 in
    let N : List ℕ → Type 0 = λ ds. BeginsWithNatural line (digits_value 10 ds) c.split_at.result.1.now in
    let R : List ℕ → Type 0 = λ rest. BeginsWithNatural line (digits_value 10 (take len line)) rest in
    let Z : ℕ → Type 0 = λ n. BeginsWithNatural line n c.split_at.result.1.now in
    let parts = c.if-not-is_plain.ensures.0 refl in
    let plain : IsPlain c.split_at.result.0.now = record {
      digits = subst D (sym front) (front_digits line len c.digits_len-len.ensures.passing);
      some = parts.0;
      plain = parts.1;
    } in
    let begins = natural_begins line len c.digits_len-len.ensures.passing (subst IsPlain front plain) (subst V front c.in-Some.ensures.0) in
    subst Z (sym c.in-Some.ensures.1) (subst N (sym front) (subst R (sym c.split_at.ensures.back) begins))

pub returns-in-None : goal.returns-in-None
returns-in-None c = λ n rest begins.
    let V : List ℕ → Type 0 = λ ds. digits_value 10 ds < 2 ^ 128 in
    c.in-None.ensures (subst V (sym c.split_at.ensures.front) (digits_small c.args.line.now c.digits_len-len.result c.digits_len-len.ensures.passing n rest begins))
