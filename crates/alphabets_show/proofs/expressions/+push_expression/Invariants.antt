use Rattle.std.proofs.Common.{◌≡◌, ◌++◌, ◌+◌, ◌<◌, ◌^◌, string_bytes, take}
use Rattle.std.specs.Prelude.{All}
use Rattle.az_ast.specs.declared.expr.Branch.{Branch}
use Rattle.az_ast.specs.Term.{term}
use Rattle.az_ast.specs.Walks.{extra_under}
use Rattle.az_ast.proofs.Walks.{below}
use Rattle.az_text.specs.Lumps.{bytes_of}
use Rattle.alphabets_show.specs.Expressions.{branch_list}
use Rattle.alphabets_show.proofs.expressions.+push_expression.Given as goal

abbrev pub decreases-push_expression : goal.decreases-push_expression
decreases-push_expression l = goal.size-push_expression l

abbrev pub invariant-loop-branch : goal.invariant-loop-branch
invariant-loop-branch l = record {
  few : All (λ (b : Branch). l.count + extra_under (term b.body) < 2 ^ 64) l.branch-items;
  written : string_bytes l.text ≡ string_bytes l.initial.text ++ bytes_of (branch_list l.declared.params.now l.declared.variables.now (below (take l.branch-index l.branch-items)) l.count);
}
