use Rattle.std.proofs.Common.{◌≡◌, ◌++◌, drop, map}
use Rattle.az_ast.specs.Accesses.{access_of}
use Rattle.az_ast.proofs.Walks.{accesses_below}
use Rattle.az_ast.proofs.walk.+push_accesses.Given as goal

abbrev pub decreases-push_accesses : goal.decreases-push_accesses
decreases-push_accesses l = goal.size-push_accesses l

-- what was found, with what is left to be found
abbrev pub invariant-loop-branch : goal.invariant-loop-branch
invariant-loop-branch l =
    map access_of l.found.items ++ accesses_below (drop l.branch-index l.branch-items) ≡ map access_of l.fn.found.items ++ accesses_below l.branch-items
