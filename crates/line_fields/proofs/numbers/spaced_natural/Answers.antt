use Rattle.std.proofs.Common.{◌∷◌, arith}
use Rattle.grammar_rules.proofs.DecimalLaws.{naturals_are_one}
use Rattle.line_fields.proofs.Numerals.{natural_first}
use Rattle.line_fields.proofs.numbers.spaced_natural.Goals as goal

pub returns-then-number-ge-TOO_GREAT : goal.returns-then-number-ge-TOO_GREAT
returns-then-number-ge-TOO_GREAT c = λ n rest small same.
    let number = c.in-Some.number in
    let one = naturals_are_one c.args.line.now number.value n number.rest.now (32 ∷ rest) c.in-Some.ensures (natural_first c.args.line.now n rest small same) in
    let equal = one.0 in
    omega (arith, equal, small)

pub returns-in-None : goal.returns-in-None
returns-in-None c = λ n rest small same.
    let number = c.in-Some.number in
    let one = naturals_are_one c.args.line.now number.value n number.rest.now (32 ∷ rest) c.in-Some.ensures (natural_first c.args.line.now n rest small same) in
    c.in-None.ensures rest one.1
