use Rattle.std.proofs.Common.{◌≡◌, [], length, ap, arith}
use Rattle.std.proofs.lemmas.Bool.Decides.{nat_tests}
use Rattle.grammar_rules.proofs.DecimalLaws.{naturals_are_one}
use Rattle.line_fields.proofs.Numerals.{natural_alone}
use Rattle.line_fields.proofs.numbers.last_natural.Goals as goal

pub returns-in_default : goal.returns-in_default
returns-in_default c = λ n small same. c.in_default.ensures n [] (natural_alone c.args.line.now n small same)

pub returns-then-number-ge-TOO_GREAT : goal.returns-then-number-ge-TOO_GREAT
returns-then-number-ge-TOO_GREAT c = λ n small same.
    let number = c.in-Some.number in
    let one = naturals_are_one c.args.line.now number.value n number.rest.now [] c.in-Some.ensures (natural_alone c.args.line.now n small same) in
    let equal = one.0 in
    omega (arith, equal, small)

pub returns-then-not-is_empty : goal.returns-then-not-is_empty
returns-then-not-is_empty c = λ n small same.
    let number = c.in-Some.number in
    let one = naturals_are_one c.args.line.now number.value n number.rest.now [] c.in-Some.ensures (natural_alone c.args.line.now n small same) in
    let none : length number.rest.now ≡ 0 = ap length one.1 in
    absurd (grind (arith, nat_tests, c.is_empty.ensures, c.if-not-is_empty.true, c.if-not-is_empty.ensures, none))
