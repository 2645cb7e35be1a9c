use Rattle.std.proofs.Common.{◌+◌, ◌*◌}
use Rattle.program_grammar.specs.Nodes.{nodes, nodes_of_bodies}
use Rattle.program_names.proofs.walk.+walk.Given as goal

abbrev pub decreases-some_piece : goal.decreases-some_piece
decreases-some_piece g l = 2 * nodes l.expr.now

abbrev pub decreases-some_of_branches : goal.decreases-some_of_branches
decreases-some_of_branches g l = 2 * nodes_of_bodies l.branches.now + 1
