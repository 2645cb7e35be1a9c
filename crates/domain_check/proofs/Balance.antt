-- Where the systems over directions are refuted no direction goes on for ever, so the domain is finite.
use Rattle.std.proofs.Common.{◌≡◌, ℕ, zero, suc, ◌+◌, ◌<◌, ◌≤◌, ℤ, pos, negsuc, List, [], ◌∷◌, ◌++◌, length, map, get_or, All, refl, sym, ap, subst, ◌∙◌, arith, ⊎_elim, ◌⊎◌, inl, inr}
use Rattle.std.proofs.lemmas.Bool.{cases_lt}
use Rattle.std.specs.List.{flat_map, range_with_len, AllByRecursion}
use Rattle.std.proofs.lemmas.List.Elements.{All-nil, All-cons, All-head}
use Rattle.az_lin.specs.Affine.{Affine, Polyhedron, Union}
use Rattle.az_ast.specs.Certified.{IsFinite}
use Rattle.expr_places.specs.Directions.{slope, moves, directions, HasNoDirection, IsBalanced}
use Rattle.expr_places.proofs.Finiteness.{finite}
use Rattle.farkas_check.specs.Directions.{BalancingMultipliers, HasConstantAtLastAlone}
use Rattle.farkas_check.proofs.Traces.{balances}
use Rattle.formula_refute.specs.Cases.{choices, cases, cases_of_all, system_of, systems}
use Rattle.formula_refute.specs.Claims.{Claim, Claims, all_of}
use Rattle.formula_refute.specs.Domains.{atoms}
use Rattle.domain_check.specs.Cases.{Case, cases_of_claim}
use Rattle.domain_check.specs.Directions.{rows_of, direction, both_ways, along_each, directions_in}
use Rattle.domain_check.specs.Stops.{IsRefuted}
use Rattle.domain_check.specs.declared.fault.CheckKind.{CheckKind}
use Rattle.domain_check.proofs.Falsity.{each_refuted, each_left, each_right}

-- a conjunction of rows has one case, these rows
pub one_case : (rows : List Affine) → cases_of_all (atoms rows) ≡ rows ∷ []
one_case [] = refl
one_case (row ∷ rows) = ap (λ all. choices ((row ∷ []) ∷ []) all) (one_case rows)

le_or_lt : (m n : ℕ) → (m ≤ n) ⊎ (n < m)
le_or_lt m n = ⊎_elim (λ below. inr below) (λ above. inl above) (cases_lt n m)

alone : (outer extra : ℕ) (rows : List Affine) (last : Affine) → HasConstantAtLastAlone (map (slope outer extra) rows ++ last ∷ [])
alone outer extra [] last k d below = absurd (omega arith)
alone outer extra (row ∷ rows) last zero d below = refl
alone outer extra (row ∷ rows) last (suc k) d below = alone outer extra rows last k d (omega arith)

module _ (kind : CheckKind) (extra : ℕ) where
  abbrev IsRefutedClaim : Claim → Type 0
  IsRefutedClaim c = All IsRefuted (cases_of_claim kind extra c)

  module _ (outer : ℕ) where
    balanced_way : (rows : List Affine) (j : ℕ) (sign : ℤ) → IsRefutedClaim (direction extra (map (slope outer extra) rows) j sign)
        → BalancingMultipliers (directions outer extra rows j sign)
    balanced_way rows j sign refuted =
        let all = directions outer extra rows j sign in
        let P : List (List Affine) → Type 0 = λ cs. All IsRefuted (map (λ (system : Polyhedron). record { kind = kind; system = system }) (map (system_of extra) cs)) in
        let one = subst P (one_case all) refuted in
        let here : IsRefuted (record { kind = kind; system = system_of extra all }) = All-head IsRefuted (record { kind = kind; system = system_of extra all }) [] one in
        balances all here.0 here.1.valid (alone outer extra rows (moves extra j sign))

    along : (rows : List Affine) (from count : ℕ) → AllByRecursion IsRefutedClaim (flat_map (both_ways extra (map (slope outer extra) rows)) (range_with_len from count))
        → (j : ℕ) → from ≤ j → j < from + count
        → BalancingMultipliers (directions outer extra rows j (pos 1)) × BalancingMultipliers (directions outer extra rows j (negsuc 0))
    along rows from zero h j low high = absurd (omega arith)
    along rows from (suc count) h j low high =
        let P : ℕ → Type 0 = λ n. BalancingMultipliers (directions outer extra rows n (pos 1)) × BalancingMultipliers (directions outer extra rows n (negsuc 0)) in
        ⊎_elim
        (λ above. along rows (from + 1) count h.1.1 j above (omega arith))
        (λ (below : j < from + 1). let same : from ≡ j = omega arith in subst P same (balanced_way rows from (pos 1) h.0, balanced_way rows from (negsuc 0) h.1.0))
        (le_or_lt (from + 1) j)

    no_direction : (rows : List Affine) → AllByRecursion IsRefutedClaim (along_each extra (map (slope outer extra) rows)) → HasNoDirection outer extra rows
    no_direction rows h j below = along rows 0 extra h j (omega arith) (omega arith)

    each_disjunct : (around : List Affine) (conjs : List Polyhedron)
        → AllByRecursion IsRefutedClaim (flat_map (λ (conj : Polyhedron). along_each extra (map (slope outer extra) (around ++ conj.rows))) conjs)
        → All (λ (conj : Polyhedron). HasNoDirection outer extra (around ++ conj.rows)) conjs
    each_disjunct around [] h = All-nil (λ (conj : Polyhedron). HasNoDirection outer extra (around ++ conj.rows))
    each_disjunct around (conj ∷ conjs) h =
        let here = along_each extra (map (slope outer extra) (around ++ conj.rows)) in
        let rest = flat_map (λ (conj : Polyhedron). along_each extra (map (slope outer extra) (around ++ conj.rows))) conjs in
        All-cons (λ (conj : Polyhedron). HasNoDirection outer extra (around ++ conj.rows)) conj conjs
        (no_direction (around ++ conj.rows) (each_left IsRefutedClaim here rest h)) (each_disjunct around conjs (each_right IsRefutedClaim here rest h))

    pub refuted_finite : (around : List Union) (domain : Union) → All (λ row. length row.coefs ≤ outer) (flat_map rows_of around)
        → All IsRefuted (flat_map (cases_of_claim kind extra) (directions_in around domain outer extra)) → IsFinite domain outer extra
    refuted_finite around domain short refuted =
        finite (flat_map rows_of around) domain outer extra (record {
          outside = short;
          disjuncts = each_disjunct (flat_map rows_of around) domain.disjuncts (each_refuted kind extra (directions_in around domain outer extra) refuted);
        })
