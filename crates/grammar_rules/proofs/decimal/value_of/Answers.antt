use Rattle.std.proofs.Common.{◌≡◌, ◌<◌, ◌^◌, List, ℕ, Ok, length, subst, sym}
use Rattle.std.proofs.lemmas.Fmt.{IsAscii-from_digits}
use Rattle.std.proofs.lemmas.Str.{IsUtf8-from_ascii}
use Rattle.std.proofs.lemmas.Str.Parse.{parse_gives, numerals_by_value, tells_digits}
use Rattle.std.specs.Str.Parse.{AllDigits, digits_value}
use Rattle.grammar_rules.proofs.DecimalLaws.{digits_below_ten}
use Rattle.grammar_rules.proofs.decimal.value_of.Goals as goal

pub returns-in_default : goal.returns-in_default
returns-in_default c = λ small.
    let digits = c.args.digits.now in
    absurd (c.in_default.ensures.cases.0 (IsUtf8-from_ascii digits (IsAscii-from_digits digits (digits_below_ten digits c.requires.digits))))

pub returns-in-Err : goal.returns-in-Err
returns-in-Err c = λ small.
    let digits = c.args.digits.now in
    let text : List ℕ = c.in-Ok.text.now in
    let same : digits ≡ text = sym c.in-Ok.ensures.cases.0 in
    let D : List ℕ → Type 0 = λ ds. AllDigits 10 ds in
    let S : List ℕ → Type 0 = λ ds. 0 < length ds in
    let V : List ℕ → Type 0 = λ ds. digits_value 10 ds < 2 ^ 128 in
    let given = parse_gives (numerals_by_value D tells_digits) 128 text c.parse.result c.parse.ensures.value.0 (subst D same (digits_below_ten digits c.requires.digits))
    (subst S same c.requires.some) (subst V same small) in
    let refused = c.in-Err.is in
    absurd (cc)
