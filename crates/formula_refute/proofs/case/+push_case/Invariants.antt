use Rattle.std.proofs.Common.{◌≡◌, ◌<◌, ◌≤◌, length}
use Rattle.formula_refute.specs.Cases.{cases}
use Rattle.formula_refute.specs.Claims.{claim}
use Rattle.formula_refute.proofs.CaseRows.{AllGoesOn, AnyGoesOn}
use Rattle.formula_refute.proofs.case.+push_case.Given as goal

abbrev pub decreases-push_case : goal.decreases-push_case
decreases-push_case l = goal.size-push_case l

abbrev pub invariant-all : goal.invariant-all
invariant-all l =
    l.fn.count ≡ length (cases (claim l.f)) → l.fn.count ≤ 131072 → l.fn.number < l.fn.count
    → AllGoesOn l.member-items l.member-index l.fn.number l.fn.rows l.rows l.after l.left

abbrev pub invariant-any : goal.invariant-any
invariant-any l =
    (l.rows ≡ l.fn.rows)
    × (l.fn.count ≡ length (cases (claim l.f)) → l.fn.count ≤ 131072 → l.fn.number < l.fn.count → AnyGoesOn l.member-items l.member-index l.fn.number l.left)
