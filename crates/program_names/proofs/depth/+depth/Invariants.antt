use Rattle.std.proofs.Common.{◌+◌, ◌*◌}
use Rattle.program_grammar.specs.Nodes.{nodes, nodes_of_bodies}
use Rattle.program_names.proofs.depth.+depth.Given as goal

abbrev pub decreases-is_under : goal.decreases-is_under
decreases-is_under l = 2 * nodes l.expr.now

abbrev pub decreases-are_under : goal.decreases-are_under
decreases-are_under l = 2 * nodes_of_bodies l.branches.now + 1
