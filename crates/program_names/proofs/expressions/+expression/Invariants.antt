use Rattle.std.proofs.Common.{◌+◌, ◌*◌}
use Rattle.program_grammar.specs.Nodes.{nodes, nodes_of_bodies}
use Rattle.program_names.proofs.expressions.+expression.Given as goal

abbrev pub decreases-expression : goal.decreases-expression
decreases-expression l = 2 * nodes l.expr.now

abbrev pub decreases-with_branches : goal.decreases-with_branches
decreases-with_branches l = 2 * nodes_of_bodies l.branches.now + 1
