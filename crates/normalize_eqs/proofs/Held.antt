-- Rows that hold at a point: those of a domain with one disjunct, of a domain with given rows, and of an outer scope
-- at a longer point.
use Rattle.std.proofs.Common.{◌≡◌, ◌↔◌, ◌⊎◌, inl, inr, ⊎_elim, ℕ, ◌+◌, List, [], ◌∷◌, ◌++◌, length, take, drop, map, sym, ap, subst, ◌∙◌, arith, length-append, append-nil}
use Rattle.std.specs.Prelude.{ℤ, pos, ◌≤ℤ◌, flat_map}
use Rattle.std.specs.List.{Any, AllByRecursion}
use Rattle.std.proofs.lemmas.List.Elements.{recursion_from_All, All-from_recursion}
use Rattle.std.proofs.Math.ListN.{drop_of_length-le}
use Rattle.std.proofs.Math.Seq.{take-append_seam}
use Rattle.az_lin.specs.Affine.{Affine, Polyhedron, Union, Holds, HoldsSome, IsAtLeastZero, value_at}
use Rattle.az_lin.specs.Columns.{widened, without}
use Rattle.az_lin.proofs.Columns.{value_at-widened}
use Rattle.az_lin.proofs.Lists.{Any-nil, Any-here, Any-cons}
use Rattle.az_ast.specs.Placed.{IsConjunction}
use Rattle.expr_places.proofs.Branches.{held_or_not}
use Rattle.normalize_eqs.specs.Pieces.{rows_of, region}

abbrev pub Hold : List Affine → List ℤ → Type 0
Hold rows z = AllByRecursion (IsAtLeastZero z) rows

pub hold-append : (xs ys : List Affine) (z : List ℤ) → Hold xs z → Hold ys z → Hold (xs ++ ys) z
hold-append [] ys z h g = g
hold-append (x ∷ xs) ys z h g = (h.0, hold-append xs ys z h.1 g)

pub hold-parts : (xs ys : List Affine) (z : List ℤ) → Hold (xs ++ ys) z → Hold xs z × Hold ys z
hold-parts [] ys z h = (tt, h)
hold-parts (x ∷ xs) ys z h = let rest = hold-parts xs ys z h.1 in ((h.0, rest.0), rest.1)

-- the domain with these rows
pub region_holds : (width : ℕ) (rows : List Affine) (z : List ℤ) → HoldsSome (region width rows) z ↔ Hold rows z
region_holds width rows z =
    let conj : Polyhedron = record { width = width; rows = rows } in
    let P : Polyhedron → Type 0 = λ (c : Polyhedron). Holds c z in (
      λ any. ⊎_elim (λ here. recursion_from_All (IsAtLeastZero z) rows here) (λ none. absurd (Any-nil P none)) (Any-cons P conj [] any),
      λ hold. Any-here P conj [] (All-from_recursion (IsAtLeastZero z) rows hold),
    )

-- a domain with one disjunct
one_disjunct : (disjuncts : List Polyhedron) (z : List ℤ) → length disjuncts ≡ 1 → Any (λ conj. Holds conj z) disjuncts ↔ Hold (flat_map (λ conj. conj.rows) disjuncts) z
one_disjunct [] z one = absurd (omega (arith, one))
one_disjunct (conj ∷ []) z one =
    let P : Polyhedron → Type 0 = λ (c : Polyhedron). Holds c z in
    let same : conj.rows ++ [] ≡ conj.rows = append-nil conj.rows in (
      λ any. subst (λ rows. Hold rows z) (sym same) (⊎_elim (λ here. recursion_from_All (IsAtLeastZero z) conj.rows here) (λ none. absurd (Any-nil P none)) (Any-cons P conj [] any)),
      λ hold. Any-here P conj [] (All-from_recursion (IsAtLeastZero z) conj.rows (subst (λ rows. Hold rows z) same hold)),
    )
one_disjunct (conj ∷ other ∷ rest) z one = absurd (omega (arith, one))

pub plain_holds : (domain : Union) (z : List ℤ) → IsConjunction domain → HoldsSome domain z ↔ Hold (rows_of domain) z
plain_holds domain z plain = one_disjunct domain.disjuncts z plain

pub hold_or_not : (rows : List Affine) (z : List ℤ) → Hold rows z ⊎ (Hold rows z → ⊥)
hold_or_not rows z =
    let same = region_holds 0 rows z in
    ⊎_elim (λ held. inl (same.0 held)) (λ fails. inr (λ hold. fails (same.1 hold))) (held_or_not (region 0 rows) z)

abbrev IsNotNegative : ℤ → Type 0
IsNotNegative c = pos 0 ≤ℤ c

-- rows of an outer scope
pub without-last : (z k : List ℤ) (place count : ℕ) → length z ≡ place → length k ≡ count → without place count (z ++ k) ≡ z
without-last z k place count long further =
    let first : take place (z ++ k) ≡ z = ap (λ m. take m (z ++ k)) (sym long) ∙ take-append_seam z k in
    let rest : drop (place + count) (z ++ k) ≡ [] = drop_of_length-le (z ++ k) (omega (arith, length-append z k, long, further)) in
    ap (λ (xs : List ℤ). xs ++ drop (place + count) (z ++ k)) first ∙ (ap (λ (xs : List ℤ). z ++ xs) rest ∙ append-nil z)

pub widened-holds : (rows : List Affine) (z k : List ℤ) (place count : ℕ) → length z ≡ place → length k ≡ count → Hold rows z → Hold (map (λ row. widened place count row) rows) (z ++ k)
widened-holds [] z k place count long further h = tt
widened-holds (row ∷ rows) z k place count long further h =
    let same : value_at (widened place count row) (z ++ k) ≡ value_at row z = value_at-widened place count row (z ++ k) ∙ ap (λ y. value_at row y) (without-last z k place count long further) in
    (subst IsNotNegative (sym same) h.0, widened-holds rows z k place count long further h.1)
