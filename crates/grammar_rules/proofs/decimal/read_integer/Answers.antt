use Rattle.grammar_rules.proofs.DecimalLaws.{none_behind, none_below, none_above}
use Rattle.grammar_rules.proofs.decimal.read_integer.Goals as goal

pub returns-in_default : goal.returns-in_default
returns-in_default c = none_behind c.args.line.now c.in-Some.digits.now c.in-Some.ensures c.in_default.ensures

pub returns-in_default-below_zero : goal.returns-in_default-below_zero
returns-in_default-below_zero c =
    none_below c.args.line.now c.in-Some.digits.now c.in-Some.ensures c.in-Some-read_natural.natural.value c.in-Some-read_natural.natural.rest.now c.in-Some-read_natural.ensures c.in_default-below_zero.ensures

pub returns-in_default-above_zero : goal.returns-in_default-above_zero
returns-in_default-above_zero c =
    none_above c.args.line.now c.in-None.ensures c.in-Some-read_natural-2.natural.value c.in-Some-read_natural-2.natural.rest.now c.in-Some-read_natural-2.ensures c.in_default-above_zero.ensures
