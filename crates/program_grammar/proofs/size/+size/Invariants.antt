use Rattle.std.proofs.Common.{◌+◌, ◌*◌}
use Rattle.program_grammar.specs.Nodes.{nodes, nodes_of_bodies}
use Rattle.program_grammar.proofs.size.+size.Given as goal

abbrev pub decreases-spend : goal.decreases-spend
decreases-spend l = 2 * nodes l.expr.now

abbrev pub decreases-spend_all : goal.decreases-spend_all
decreases-spend_all l = 2 * nodes_of_bodies l.branches.now + 1
