use Rattle.std.proofs.Common.{◌≡◌, ◌-◌, drop, length, None}
use Rattle.formula_refute.proofs.ShareSteps.{GoesOn}
use Rattle.formula_refute.proofs.share.Share.fill.Given as goal

abbrev pub invariant-loop-place : goal.invariant-loop-place
invariant-loop-place g l =
    GoesOn l.workers (drop l.fn.worker (g.C.CaseList.list l.cases)) (drop l.place (g.C.CaseList.list l.cases)) l.self.derivations.items × (l.self.end ≡ None)

abbrev pub decreases-loop-place : goal.decreases-loop-place
decreases-loop-place g l = l.count - l.place
