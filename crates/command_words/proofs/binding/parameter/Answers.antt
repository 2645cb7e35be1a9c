use Rattle.std.proofs.Common.{◌≡◌, rules, refl, true, false, arith, FitsSigned}
use Rattle.std.specs.Int.{w128}
use Rattle.std.specs.Prelude.{Some, None}
use Rattle.std.proofs.lemmas.Int.{to_z-of_z}
use Rattle.std.proofs.lemmas.Str.Pattern.{split_parts}
use Rattle.command_words.proofs.Cuts.{no_parameter}
use Rattle.command_words.proofs.binding.parameter.Goals as goal

pub returns-in_err-name-clause-none : goal.returns-in_err-name-clause-none
returns-in_err-name-clause-none c = rw c.from_residual.ensures (no_parameter c.args.word.now None c.in_err-name.ensures.cases tt)

pub returns-then-not-is_word-clause-none : goal.returns-then-not-is_word-clause-none
returns-then-not-is_word-clause-none c =
    no_parameter c.args.word.now (Some (c.in_ok-name.name, c.in_ok-name.digits)) c.in_ok-name.ensures.cases
    (λ is number int. let bad : false ≡ true = c.if-not-is_word.ensures.1 is in cc)

pub returns-in_err-number-clause-none : goal.returns-in_err-number-clause-none
returns-in_err-number-clause-none c =
    rw c.from_residual-in_err-number.ensures
    (no_parameter c.args.word.now (Some (c.in_ok-name.name, c.in_ok-name.digits)) c.in_ok-name.ensures.cases (λ is. c.in_err-number.ensures.none))

pub returns-clause-found : goal.returns-clause-found
returns-clause-found c =
    let fits : FitsSigned w128 c.in_ok-number.number = search rules in
    let parts = split_parts 61 c.args.word.now (Some (c.in_ok-name.name, c.in_ok-name.digits)) c.in_ok-name.ensures.cases (omega arith) in
    rw (to_z-of_z w128 c.in_ok-number.number fits)
    (c.in_ok-name.digits.now, parts.0, c.if-not-is_word.ensures.0 refl, c.in_ok-number.ensures.found)
