use Rattle.std.proofs.Common.{◌≡◌, ℕ, ◌+◌, List, suc, arith, subst}
use Rattle.az_text.specs.declared.token.Token.{Token}
use Rattle.grammar_rules.specs.Gives.{IsReadBy}
use Rattle.grammar_rules.specs.Whole.{verdict}
use Rattle.grammar_rules.proofs.ReadBy.{read_by, always_gives, always_some}
use Rattle.grammar_rules_tests.specs.Sums.{sum, read_sum}
use Rattle.grammar_rules_tests.proofs.SumRules.{sum_verdict}
use Rattle.grammar_rules_tests.proofs.sums.read_sum.Goals as goal

pub returns-clause-read : goal.returns-clause-read
returns-clause-read c =
    let deep : c.from.result + 1 ≡ suc c.new.result.budget = omega arith in
    let answer = read_sum (c.from.result + 1) c.new.result.budget c.new.result.rest.now in
    subst (λ (n : ℕ). IsReadBy sum n c.args.tokens.now c.finish.result) c.new.ensures.budget
    (subst (λ (ts : List Token). IsReadBy sum c.new.result.budget ts c.finish.result) c.new.ensures.rest
    (read_by sum c.new.result.budget c.new.result.rest.now (verdict answer) c.finish.result
    (sum_verdict c.new.result.budget (c.from.result + 1) c.new.result.rest.now deep)
    (c.finish.ensures.answer answer (always_gives c.sum.result answer c.sum.ensures))))

pub returns-clause-memory : goal.returns-clause-memory
returns-clause-memory c = λ none.
    always_some c.sum.result (read_sum (c.from.result + 1) c.new.result.budget c.new.result.rest.now) c.sum.ensures (c.finish.ensures.memory none)
