-- The pieces of a difference: which points they hold, that no two hold the same, and how a loop makes them.
use Rattle.std.proofs.Common.{◌≡◌, ◌⊎◌, inl, inr, ◌↔◌, ℕ, ◌+◌, ◌<◌, ◌≤◌, Err, ℤ, pos, List, [], ◌∷◌, ◌++◌, length, get_or, take, drop, refl, sym, ap, ◌∙◌, subst, arith, All, add-one, append_assoc, drop-cons}
use Rattle.std.specs.List.{Any, AllPairs}
use Rattle.std.proofs.lemmas.Int.{by_lt_z, ints}
use Rattle.std.proofs.Math.Seq.{drop-length}
use Rattle.std.proofs.lemmas.List.{take_more, append-nil, get_or_default}
use Rattle.std.proofs.lemmas.List.Elements.{All-nil, All-cons, All-head, All-tail, All-append}
use Rattle.az_lin.specs.Affine.{Affine, Polyhedron, HasEntries, Holds, IsAtLeastZero, value_at}
use Rattle.az_lin.specs.Negation.{negated}
use Rattle.az_lin.proofs.Negation.{negated_holds}
use Rattle.az_poly.specs.Answers.{IsExactly, IsDifference, HasEntryNegations}
use Rattle.az_poly.specs.declared.fault.PolyFault.{PolyFault}
use Rattle.az_poly.specs.declared.fault.PolyFault.TheVariants.{Entry, Limit, Memory}
use Rattle.az_poly.specs.Operations.{piece, pieces_from, pieces}
use Rattle.az_lin.proofs.Lists.{Any-nil, Any-here, Any-there, Any-cons, All-left, All-right, AllPairs-nil, AllPairs-cons}

at_least_or_not : (z : List ℤ) (row : Affine) → IsAtLeastZero z row ⊎ (IsAtLeastZero z row → ⊥)
at_least_or_not z row = by_lt_z (value_at row z) (pos 0) (λ below. inr (λ above. absurd (omega (arith, ints, below, above)))) (λ above. inl above)

piece_holds : (width : ℕ) (kept : List Affine) (row : Affine) (z : List ℤ)
    → Holds (piece width kept row) z ↔ (All (IsAtLeastZero z) kept × (IsAtLeastZero z row → ⊥))
piece_holds width kept row z =
    let P : Affine → Type 0 = IsAtLeastZero z in
    let turned : P (negated row) ↔ (P row → ⊥) = negated_holds row z in (
      λ all. (All-left P kept (negated row ∷ []) all, turned.0 (All-head P (negated row) [] (All-right P kept (negated row ∷ []) all))),
      λ held. All-append P kept (negated row ∷ []) held.0 (All-cons P (negated row) [] (turned.1 held.1) (All-nil P)),
    )

from_hold : (width : ℕ) (kept rows : List Affine) (z : List ℤ)
    → Any (λ part. Holds part z) (pieces_from width kept rows) ↔ (All (IsAtLeastZero z) kept × (All (IsAtLeastZero z) rows → ⊥))
from_hold width kept [] z = (λ none. absurd (Any-nil (λ part. Holds part z) none), λ held. absurd (held.1 (All-nil (IsAtLeastZero z))))
from_hold width kept (row ∷ rows) z =
    let P : Affine → Type 0 = IsAtLeastZero z in
    let H : Polyhedron → Type 0 = λ part. Holds part z in
    let first : Polyhedron = piece width kept row in
    let others : List Polyhedron = pieces_from width (kept ++ row ∷ []) rows in
    let one : H first ↔ (All P kept × (P row → ⊥)) = piece_holds width kept row z in
    let rest : Any H others ↔ (All P (kept ++ row ∷ []) × (All P rows → ⊥)) = from_hold width (kept ++ row ∷ []) rows z in (
      λ any. elim (Any-cons H first others any) [
        | inl held ↦ ((one.0 held).0, λ all. (one.0 held).1 (All-head P row rows all))
        | inr later ↦ (All-left P kept (row ∷ []) (rest.0 later).0, λ all. (rest.0 later).1 (All-tail P row rows all))
      ],
      λ held. elim (at_least_or_not z row) [
        | inl above ↦ Any-there H first others
            (rest.1 (All-append P kept (row ∷ []) held.0 (All-cons P row [] above (All-nil P)), λ all. held.1 (All-cons P row rows above all)))
        | inr not_above ↦ Any-here H first others (one.1 (held.0, not_above))
      ],
    )

pub pieces_hold : (a b : Polyhedron) (z : List ℤ) → Any (λ part. Holds part z) (pieces a b) ↔ (Holds a z × (Holds b z → ⊥))
pieces_hold a b z = from_hold a.width a.rows b.rows z

-- a later piece has the row that the first negates
later_has : (width : ℕ) (kept : List Affine) (row : Affine) (rows : List Affine) (z : List ℤ)
    → All (λ other. Holds (piece width kept row) z → Holds other z → ⊥) (pieces_from width (kept ++ row ∷ []) rows)
later_has width kept row rows z k d here = λ first later.
    let P : Affine → Type 0 = IsAtLeastZero z in
    let others : List Polyhedron = pieces_from width (kept ++ row ∷ []) rows in
    let any : Any (λ part. Holds part z) others = (k, get_or others k d, here, get_or_default others k (get_or others k d) d here, later) in
    let not_above : P row → ⊥ = ((piece_holds width kept row z).0 first).1 in
    not_above (All-head P row [] (All-right P kept (row ∷ []) ((from_hold width (kept ++ row ∷ []) rows z).0 any).0))

from_disjoint : (width : ℕ) (kept rows : List Affine) (z : List ℤ) → AllPairs (λ part other. Holds part z → Holds other z → ⊥) (pieces_from width kept rows)
from_disjoint width kept [] z = AllPairs-nil (λ part other. Holds part z → Holds other z → ⊥)
from_disjoint width kept (row ∷ rows) z =
    AllPairs-cons (λ part other. Holds part z → Holds other z → ⊥) (piece width kept row) (pieces_from width (kept ++ row ∷ []) rows)
    (later_has width kept row rows z) (from_disjoint width (kept ++ row ∷ []) rows z)

pub pieces_disjoint : (a b : Polyhedron) (z : List ℤ) → AllPairs (λ part other. Holds part z → Holds other z → ⊥) (pieces a b)
pieces_disjoint a b z = from_disjoint a.width a.rows b.rows z

pub length-pieces_from : (width : ℕ) (kept rows : List Affine) → length (pieces_from width kept rows) ≡ length rows
length-pieces_from width kept [] = refl
length-pieces_from width kept (row ∷ rows) = omega (arith, length-pieces_from width (kept ++ row ∷ []) rows)

-- the pieces made so far and those that are left: one turn more
pub pieces_from-step : (width : ℕ) (kept rows : List Affine) (i : ℕ) (d : Affine) (done next : List Polyhedron) (part : Polyhedron) (whole : List Polyhedron) → i < length rows
    → done ++ pieces_from width (kept ++ take i rows) (drop i rows) ≡ whole
    → part ≡ piece width (kept ++ take i rows) (get_or rows i d)
    → next ≡ done ++ part ∷ []
    → next ++ pieces_from width (kept ++ take (i + 1) rows) (drop (i + 1) rows) ≡ whole
pieces_from-step width kept rows i d done next part whole here before is pushed =
    let row : Affine = get_or rows i d in
    let rest : List Polyhedron = pieces_from width ((kept ++ take i rows) ++ row ∷ []) (drop (i + 1) rows) in
    let more : kept ++ take (i + 1) rows ≡ (kept ++ take i rows) ++ row ∷ [] =
    ap (λ xs. kept ++ xs) (take_more rows i d here) ∙ sym (append_assoc kept (take i rows) (row ∷ [])) in
    let opened : drop i rows ≡ row ∷ drop (i + 1) rows = drop-cons rows i d here ∙ ap (λ n. row ∷ drop n rows) (sym (add-one i)) in
    ap (λ xs. next ++ pieces_from width xs (drop (i + 1) rows)) more
    ∙ ap (λ xs. xs ++ rest) pushed
    ∙ append_assoc done (part ∷ []) rest
    ∙ ap (λ p. done ++ p ∷ rest) is
    ∙ sym (ap (λ xs. done ++ pieces_from width (kept ++ take i rows) xs) opened)
    ∙ before

-- after the last row
pub pieces_from-done : (a b : Polyhedron) (removed : List Affine) (i : ℕ) (done : List Polyhedron) → i ≡ length removed → removed ≡ b.rows
    → done ++ pieces_from a.width (a.rows ++ take i removed) (drop i removed) ≡ pieces_from a.width a.rows removed
    → done ≡ pieces a b
pieces_from-done a b removed i done full same whole =
    let none : drop i removed ≡ [] = ap (λ n. drop n removed) full ∙ drop-length removed in
    sym (append-nil done)
    ∙ sym (ap (λ xs. done ++ pieces_from a.width (a.rows ++ take i removed) xs) none)
    ∙ whole
    ∙ ap (λ xs. pieces_from a.width a.rows xs) same

-- a negated row that is refused
pub cut_refused : (a b : Polyhedron) (row : Affine) (part : Polyhedron) (fault : PolyFault) → IsExactly (λ _. HasEntries (negated row)) part (Err fault)
    → length b.rows ≤ 256 → (HasEntryNegations b → HasEntries (negated row)) → IsDifference a b (Err fault)
cut_refused a b row part Entry exact few all_fit = (rw (length-pieces_from a.width a.rows b.rows) few, λ all. exact (all_fit all))
cut_refused a b row part (Limit _) exact few all_fit = absurd exact
cut_refused a b row part Memory exact few all_fit = tt

-- the row at a place, whatever stands there by default
pub negation_at : (rows : List Affine) (i : ℕ) (row : Affine) → i < length rows → row ≡ get_or rows i row → HasEntries (negated row) → (d : Affine) → HasEntries (negated (get_or rows i d))
negation_at rows i row here is fits d = subst (λ r. HasEntries (negated r)) (is ∙ get_or_default rows i row d here) fits
