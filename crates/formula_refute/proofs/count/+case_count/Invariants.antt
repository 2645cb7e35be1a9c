use Rattle.std.proofs.Common.{◌≡◌, min, length, ◌+◌, ◌*◌, ◌≤◌, drop}
use Rattle.formula_refute.specs.Cases.{cases_of_all, cases_of_any}
use Rattle.formula_refute.proofs.FormulaData.{below}
use Rattle.formula_refute.proofs.count.+case_count.Given as goal

abbrev pub decreases-case_count : goal.decreases-case_count
decreases-case_count l = goal.size-case_count l

abbrev pub invariant-all : goal.invariant-all
invariant-all l =
    (l.count ≤ 131073)
    × (min (l.count * length (cases_of_all (below (drop l.member-index l.member-items)))) 131073 ≡ min (length (cases_of_all (below l.member-items))) 131073)

abbrev pub invariant-any : goal.invariant-any
invariant-any l =
    (l.count ≤ 131073)
    × (min (l.count + length (cases_of_any (below (drop l.member-index l.member-items)))) 131073 ≡ min (length (cases_of_any (below l.member-items))) 131073)
