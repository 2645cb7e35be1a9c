-- One branch holds a point exactly if no two do and the point is in no gap.
use Rattle.std.proofs.Common.{◌⊎◌, inl, inr, ⊎_elim, ◌↔◌, ℤ, pos, List, [], ◌∷◌, arith, All}
use Rattle.std.specs.List.{Any, AllByRecursion}
use Rattle.std.proofs.lemmas.Int.{ints, by_lt_z}
use Rattle.std.proofs.lemmas.List.Elements.{All-nil, All-cons, All-head, All-tail}
use Rattle.az_lin.specs.Affine.{Affine, Polyhedron, Union, Holds, HoldsSome, IsAtLeastZero, value_at}
use Rattle.az_ast.specs.Certified.{NoneHolds, OneHolds}
use Rattle.az_ast.specs.Term.{Choices, none, choice}
use Rattle.az_ast.specs.Walks.{branch_domains}
use Rattle.az_lin.proofs.Lists.{Any-nil, Any-here, Any-there, Any-cons}
use Rattle.expr_places.specs.Branches.{NoTwoHold, NoneHold, HasOneBranch}

-- whether a point is held is decided row by row
abbrev IsDecided : Type 0 → Type 0
IsDecided P = P ⊎ (P → ⊥)

row_decided : (row : Affine) (z : List ℤ) → IsDecided (IsAtLeastZero z row)
row_decided row z = by_lt_z (value_at row z) (pos 0) (λ below. inr (λ above. omega (arith, ints, below, above))) (λ above. inl above)

rows_decided : (rows : List Affine) (z : List ℤ) → IsDecided (All (IsAtLeastZero z) rows)
rows_decided [] z = inl (All-nil (IsAtLeastZero z))
rows_decided (row ∷ rows) z =
    ⊎_elim
    (λ here. ⊎_elim (λ rest. inl (All-cons (IsAtLeastZero z) row rows here rest)) (λ fails. inr (λ all. fails (All-tail (IsAtLeastZero z) row rows all))) (rows_decided rows z))
    (λ fails. inr (λ all. fails (All-head (IsAtLeastZero z) row rows all)))
    (row_decided row z)

disjuncts_decided : (conjs : List Polyhedron) (z : List ℤ) → IsDecided (Any (λ conj. Holds conj z) conjs)
disjuncts_decided [] z = inr (λ any. Any-nil (λ conj. Holds conj z) any)
disjuncts_decided (conj ∷ conjs) z =
    let P : Polyhedron → Type 0 = λ conj. Holds conj z in
    ⊎_elim
    (λ here. inl (Any-here P conj conjs here))
    (λ fails. ⊎_elim (λ rest. inl (Any-there P conj conjs rest)) (λ none. inr (λ any. ⊎_elim fails none (Any-cons P conj conjs any))) (disjuncts_decided conjs z))
    (rows_decided conj.rows z)

pub held_or_not : (domain : Union) (z : List ℤ) → HoldsSome domain z ⊎ (HoldsSome domain z → ⊥)
held_or_not domain z = disjuncts_decided domain.disjuncts z

-- one holds the point, and none after it
none-others : (domain : Union) (branches : Choices) (z : List ℤ) → HoldsSome domain z
    → AllByRecursion (λ other. HoldsSome domain z → HoldsSome other z → ⊥) (branch_domains branches) → NoneHolds branches z
none-others domain none z held apart = tt
none-others domain (choice other e rest) z held apart = (λ both. apart.0 held both, none-others domain rest z held apart.1)

pub one_branch-to : (branches : Choices) (z : List ℤ) → NoTwoHold (branch_domains branches) z → (NoneHold (branch_domains branches) z → ⊥) → OneHolds branches z
one_branch-to none z apart covered = covered tt
one_branch-to (choice domain e rest) z apart covered =
    ⊎_elim
    (λ held. inl (held, none-others domain rest z held apart.0))
    (λ fails. inr (fails, one_branch-to rest z apart.1 (λ none. covered (fails, none))))
    (held_or_not domain z)

-- and back
others-none : (domain : Union) (branches : Choices) (z : List ℤ) → NoneHolds branches z
    → AllByRecursion (λ other. HoldsSome domain z → HoldsSome other z → ⊥) (branch_domains branches)
others-none domain none z fails = tt
others-none domain (choice other e rest) z fails = (λ held both. fails.0 both, others-none domain rest z fails.1)

others-apart : (domain : Union) (branches : Choices) (z : List ℤ) → (HoldsSome domain z → ⊥)
    → AllByRecursion (λ other. HoldsSome domain z → HoldsSome other z → ⊥) (branch_domains branches)
others-apart domain none z fails = tt
others-apart domain (choice other e rest) z fails = (λ held both. fails held, others-apart domain rest z fails)

none-apart : (branches : Choices) (z : List ℤ) → NoneHolds branches z → NoTwoHold (branch_domains branches) z
none-apart none z fails = tt
none-apart (choice domain e rest) z fails = (others-apart domain rest z fails.0, none-apart rest z fails.1)

pub branch-apart : (branches : Choices) (z : List ℤ) → OneHolds branches z → NoTwoHold (branch_domains branches) z
branch-apart none z one = absurd one
branch-apart (choice domain e rest) z one =
    ⊎_elim
    (λ here. (others-none domain rest z here.1, none-apart rest z here.1))
    (λ there. (others-apart domain rest z there.0, branch-apart rest z there.1))
    one

pub branch-covered : (branches : Choices) (z : List ℤ) → OneHolds branches z → NoneHold (branch_domains branches) z → ⊥
branch-covered none z one fails = one
branch-covered (choice domain e rest) z one fails = ⊎_elim (λ here. fails.0 here.0) (λ there. branch-covered rest z there.1 fails.1) one

pub one_branch : (branches : Choices) (z : List ℤ) → HasOneBranch (branch_domains branches) z ↔ OneHolds branches z
one_branch branches z = (
  λ has. one_branch-to branches z has.no_overlap has.no_gap,
  λ one. record { no_overlap = branch-apart branches z one; no_gap = branch-covered branches z one },
)
