use Rattle.std.proofs.Common.{◌∷◌, arith, sym, subst}
use Rattle.std.proofs.lemmas.Int.{ints}
use Rattle.grammar_rules.proofs.DecimalLaws.{integers_are_one}
use Rattle.line_fields.specs.Fields.{IsWide}
use Rattle.line_fields.proofs.Numerals.{integer_first}
use Rattle.line_fields.proofs.numbers.spaced_integer.Goals as goal

pub returns-then-number : goal.returns-then-number
returns-then-number c = λ z rest wide same.
    let number = c.in-Some.number in
    let one = integers_are_one c.args.line.now number.value z number.rest.now (32 ∷ rest) c.in-Some.ensures (integer_first c.args.line.now z rest wide same) in
    let bad : IsWide c.in-Some.number.value = subst IsWide (sym one.0) wide in
    let least = c.if-number.true in
    absurd (omega (arith, ints, bad, least))

pub returns-in-None : goal.returns-in-None
returns-in-None c = λ z rest wide same.
    let number = c.in-Some.number in
    let one = integers_are_one c.args.line.now number.value z number.rest.now (32 ∷ rest) c.in-Some.ensures (integer_first c.args.line.now z rest wide same) in
    c.in-None.ensures rest one.1
