-- Which points a conjunction or a domain of changed rows holds: those whose changed points the old one holds.
use Rattle.std.proofs.Common.{◌≡◌, ◌↔◌, ℕ, ℤ, pos, ◌≤ℤ◌, List, ◌++◌, map, sym, subst, All}
use Rattle.std.specs.List.{Any}
use Rattle.az_lin.specs.Affine.{Affine, Polyhedron, Union, Holds, HoldsSome, IsAtLeastZero, value_at}
use Rattle.az_lin.specs.Columns.{without, widened, widened_conj, widened_domain, at_params, conj_at_params, domain_at_params}
use Rattle.az_lin.proofs.Columns.{value_at-widened, value_at-at_params}
use Rattle.az_lin.proofs.Lists.{Any-map, All-map_same}

same_sign : (x y : ℤ) → x ≡ y → (pos 0 ≤ℤ x) ↔ (pos 0 ≤ℤ y)
same_sign x y same = (λ h. subst (λ v. pos 0 ≤ℤ v) same h, λ h. subst (λ v. pos 0 ≤ℤ v) (sym same) h)

-- rows that have, at one point, the values that the given rows have at another
pub rows_hold : (change : Affine → Affine) (rows : List Affine) (y z : List ℤ) → ((row : Affine) → value_at (change row) y ≡ value_at row z)
    → All (IsAtLeastZero y) (map change rows) ↔ All (IsAtLeastZero z) rows
rows_hold change rows y z same =
    All-map_same (IsAtLeastZero y) (IsAtLeastZero z) change rows (λ row. same_sign (value_at (change row) y) (value_at row z) (same row))

pub disjuncts_hold : (change : Polyhedron → Polyhedron) (disjuncts : List Polyhedron) (y z : List ℤ) → ((conj : Polyhedron) → Holds (change conj) y ↔ Holds conj z)
    → Any (λ conj. Holds conj y) (map change disjuncts) ↔ Any (λ conj. Holds conj z) disjuncts
disjuncts_hold change disjuncts y z same = Any-map (λ conj. Holds conj y) (λ conj. Holds conj z) change disjuncts same

pub widened_conj_holds : (place count : ℕ) (conj : Polyhedron) (z : List ℤ) → Holds (widened_conj place count conj) z ↔ Holds conj (without place count z)
widened_conj_holds place count conj z =
    rows_hold (λ row. widened place count row) conj.rows z (without place count z) (λ row. value_at-widened place count row z)

pub widened_domain_holds : (place count : ℕ) (d : Union) (z : List ℤ) → HoldsSome (widened_domain place count d) z ↔ HoldsSome d (without place count z)
widened_domain_holds place count d z =
    disjuncts_hold (λ conj. widened_conj place count conj) d.disjuncts z (without place count z) (λ conj. widened_conj_holds place count conj z)

pub conj_at_params_holds : (params : List ℤ) (conj : Polyhedron) (z : List ℤ) → Holds (conj_at_params params conj) z ↔ Holds conj (params ++ z)
conj_at_params_holds params conj z = rows_hold (λ row. at_params params row) conj.rows z (params ++ z) (λ row. value_at-at_params params row z)

pub domain_at_params_holds : (params : List ℤ) (d : Union) (z : List ℤ) → HoldsSome (domain_at_params params d) z ↔ HoldsSome d (params ++ z)
domain_at_params_holds params d z =
    disjuncts_hold (λ conj. conj_at_params params conj) d.disjuncts z (params ++ z) (λ conj. conj_at_params_holds params conj z)
