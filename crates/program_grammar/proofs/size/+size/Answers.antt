use Rattle.std.proofs.Common.{◌≡◌, ◌+◌, rules}
use Rattle.program_grammar.proofs.NodeLemmas.{cases_spend}
use Rattle.program_grammar.proofs.size.+size.Goals as goal

pub spend-returns-in-Cases : goal.spend-returns-in-Cases
spend-returns-in-Cases t c =
    let one : c.in_ok-left.left + 1 ≡ c.args.left = search rules in
    cases_spend c.args.left c.in_ok-left.left c.args.expr.now c.in-Cases.branches c.spend_all.result c.in-Cases.is one
    (rw c.as_slice.ensures at c.spend_all.ensures)
