use Rattle.std.proofs.Common.{◌≡◌, [], length, ap, arith, sym, subst}
use Rattle.std.proofs.lemmas.Int.{ints}
use Rattle.std.proofs.lemmas.Bool.Decides.{nat_tests}
use Rattle.grammar_rules.proofs.DecimalLaws.{integers_are_one}
use Rattle.line_fields.specs.Fields.{IsWide}
use Rattle.line_fields.proofs.Numerals.{integer_alone}
use Rattle.line_fields.proofs.numbers.last_integer.Goals as goal

pub returns-in_default : goal.returns-in_default
returns-in_default c = λ z wide same. c.in_default.ensures z [] (integer_alone c.args.line.now z wide same)

pub returns-then-number : goal.returns-then-number
returns-then-number c = λ z wide same.
    let number = c.in-Some.number in
    let one = integers_are_one c.args.line.now number.value z number.rest.now [] c.in-Some.ensures (integer_alone c.args.line.now z wide same) in
    let bad : IsWide c.in-Some.number.value = subst IsWide (sym one.0) wide in
    let least = c.if-number.true in
    absurd (omega (arith, ints, bad, least))

pub returns-then-not-is_empty : goal.returns-then-not-is_empty
returns-then-not-is_empty c = λ z wide same.
    let number = c.in-Some.number in
    let one = integers_are_one c.args.line.now number.value z number.rest.now [] c.in-Some.ensures (integer_alone c.args.line.now z wide same) in
    let none : length number.rest.now ≡ 0 = ap length one.1 in
    absurd (grind (arith, nat_tests, c.is_empty.ensures, c.if-not-is_empty.true, c.if-not-is_empty.ensures, none))
