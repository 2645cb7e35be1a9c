use Rattle.std.proofs.Common.{◌≡◌, ℕ, List, [], length, arith, ap, ◌∙◌}
use Rattle.std.specs.Borrow.{Bor}
use Rattle.std.proofs.lemmas.Bool.Decides.{nat_tests}
use Rattle.grammar_rules.proofs.DecimalLaws.{naturals_are_one}
use Rattle.command_words.proofs.Found.{begins}
use Rattle.command_words.proofs.count.natural.Goals as goal

pub returns-in_err-value-clause-none : goal.returns-in_err-value-clause-none
returns-in_err-value-clause-none c =
    rw c.from_residual.ensures (λ n fits is. c.in_err-value.ensures n [] (begins c.as_bytes.result.now n fits (c.as_bytes.ensures.value ∙ is)))

pub returns-else-is_empty-clause-none : goal.returns-else-is_empty-clause-none
returns-else-is_empty-clause-none c = λ n fits is.
    let same = naturals_are_one c.as_bytes.result.now c.in_ok-value.field-0.value n c.in_ok-value.field-0.rest.now [] c.in_ok-value.ensures (begins c.as_bytes.result.now n fits (c.as_bytes.ensures.value ∙ is)) in
    let none : length c.in_ok-value.field-0.rest.now ≡ 0 = ap length same.1 in
    let rest_is = ap (λ (rest : Bor (List ℕ)). length rest.now) c.in_ok-value.rest-is in
    grind (arith, nat_tests, c.is_empty.ensures, c.if-is_empty.false, none, rest_is)
