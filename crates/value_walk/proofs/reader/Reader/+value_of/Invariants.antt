use Rattle.std.proofs.Common.{◌≡◌, ◌<◌, ◌≤◌, length, take, drop}
use Rattle.std.specs.Prelude.{All, MatchOption, vec_len}
use Rattle.az_ast.specs.Nodes.{nodes}
use Rattle.value_walk.specs.Inner.Codes.{term}
use Rattle.value_walk.specs.Inner.Ready.{IsPending}
use Rattle.value_walk.proofs.Steps.{IsLeft, IsFolded}
use Rattle.value_walk.proofs.reader.Reader.+value_of.Given as goal

abbrev pub decreases-value_of : goal.decreases-value_of
decreases-value_of l = nodes (term l.e.now)

-- what is left of the branches holds the point, and has the value of the case
abbrev pub invariant-branches : goal.invariant-branches
invariant-branches l =
    IsLeft l.self.scene.now l.self.slot l.e l.z (drop l.branch-index l.branch-items) ×
    All (IsPending l.self.scene.now l.self.slot l.states) l.reads.items × (vec_len l.fn.reads ≤ vec_len l.reads)

-- the body's values at the points so far are folded, or a read waits
abbrev pub invariant-points : goal.invariant-points
invariant-points l =
    (take (length l.z) l.point.items ≡ l.z) × (length l.z ≤ length l.point.items) ×
    All (IsPending l.self.scene.now l.self.slot l.states) l.reads.items × (vec_len l.fn.reads ≤ vec_len l.reads) ×
    MatchOption l.total (0 < vec_len l.reads) (IsFolded l.self.scene.now l.op l.body l.z (take l.k-index l.k-items))
