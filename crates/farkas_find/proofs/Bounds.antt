-- Bounds that are compared one by one: the best so far, against the whole.
use Rattle.std.proofs.Common.{◌≡◌, ℕ, suc, ◌+◌, ◌<◌, ◌≤◌, ◌∙◌, refl, sym, subst, ap, arith, Bool, true, false, cond, List, [], ◌∷◌, ◌++◌, length, get_or, map, take, drop, All, ℤ, Option, Some, None, IfSome, pos, ◌<ℤ◌}
use Rattle.std.proofs.lemmas.Int.{ints}
use Rattle.std.specs.List.{fold}
use Rattle.std.proofs.Math.Seq.{drop-cons}
use Rattle.std.proofs.Math.ListN.{drop_of_length-le}
use Rattle.std.proofs.lemmas.List.Elements.{All-push}
use Rattle.az_lin.specs.Affine.{IsWide}
use Rattle.az_lin.specs.RationalPoint.{value_over}
use Rattle.az_lin.specs.declared.step.RatPoint.{RatPoint}
use Rattle.az_lin.proofs.Mapped.{map-take-more}
use Rattle.farkas_find.specs.Tidying.{coef_at}
use Rattle.farkas_find.specs.declared.numbered.Numbered.{Numbered}
use Rattle.farkas_find.specs.Combining.{has_sign}
use Rattle.farkas_find.specs.BackSubstitution.{from_side, bound_of, HasWideBound, CanBeTaken, magnitude, factor_at, tighter, tighter_of, AreComparable, CompareWide}
use Rattle.farkas_find.specs.declared.bound.Bound.{Bound}

pub nonzero_from_sign : (below : Bool) (z : ℤ) → has_sign below z ≡ true → pos 0 <ℤ magnitude z
nonzero_from_sign true z h = grind (arith, ints)
nonzero_from_sign false z h = grind (arith, ints)

pub record BestSoFar (below : Bool) (bounds : List Bound) (best : Option Bound) (i : ℕ) : Type 0 where
  pub whole : fold tighter_of best (from_side below (drop i bounds)) ≡ fold tighter_of None (from_side below bounds)
  pub wide : CompareWide best (from_side below (drop i bounds)) → CompareWide None (from_side below bounds)
  pub back : CompareWide None (from_side below bounds) → CompareWide best (from_side below (drop i bounds))

from_side-drop : (below : Bool) (bounds : List Bound) (i : ℕ) (d : Bound) → i < length bounds
    → from_side below (drop i bounds) ≡ cond (has_sign below (get_or bounds i d).coef) (get_or bounds i d ∷ from_side below (drop (i + 1) bounds)) (from_side below (drop (i + 1) bounds))
from_side-drop below bounds i d inside =
    let next : i + 1 ≡ suc i = omega arith in
    rw (next, drop-cons bounds i d inside) refl

from_side-yes : (below : Bool) (bounds : List Bound) (i : ℕ) (d : Bound) → i < length bounds → has_sign below (get_or bounds i d).coef ≡ true
    → from_side below (drop i bounds) ≡ get_or bounds i d ∷ from_side below (drop (i + 1) bounds)
from_side-yes below bounds i d inside passes =
    from_side-drop below bounds i d inside ∙ ap (λ b. cond b (get_or bounds i d ∷ from_side below (drop (i + 1) bounds)) (from_side below (drop (i + 1) bounds))) passes

from_side-no : (below : Bool) (bounds : List Bound) (i : ℕ) (d : Bound) → i < length bounds → has_sign below (get_or bounds i d).coef ≡ false
    → from_side below (drop i bounds) ≡ from_side below (drop (i + 1) bounds)
from_side-no below bounds i d inside fails =
    from_side-drop below bounds i d inside ∙ ap (λ b. cond b (get_or bounds i d ∷ from_side below (drop (i + 1) bounds)) (from_side below (drop (i + 1) bounds))) fails

pub best-init : (below : Bool) (bounds : List Bound) → BestSoFar below bounds None 0
best-init below bounds = record { whole = refl; wide = λ h. h; back = λ h. h }

pub best-passes : (below : Bool) (bounds : List Bound) (best : Option Bound) (i : ℕ) (d : Bound) → i < length bounds → has_sign below (get_or bounds i d).coef ≡ false
    → BestSoFar below bounds best i → BestSoFar below bounds best (i + 1)
best-passes below bounds best i d inside fails before =
    let same = from_side-no below bounds i d inside fails in
    let P : List Bound → Type 0 = CompareWide best in
    record {
      whole = sym (ap (fold tighter_of best) same) ∙ before.whole;
      wide = λ h. before.wide (subst P (sym same) h);
      back = λ h. subst P same (before.back h);
    }

pub best-takes : (below : Bool) (bounds : List Bound) (best : Option Bound) (i : ℕ) (d got : Bound) → i < length bounds → has_sign below (get_or bounds i d).coef ≡ true
    → AreComparable best (get_or bounds i d) → got ≡ tighter best (get_or bounds i d)
    → BestSoFar below bounds best i → BestSoFar below bounds (Some got) (i + 1)
best-takes below bounds best i d got inside passes comparable is before =
    let same = from_side-yes below bounds i d inside passes in
    let rest = from_side below (drop (i + 1) bounds) in
    let P : List Bound → Type 0 = CompareWide best in
    let Q : Bound → Type 0 = λ b. CompareWide (Some b) rest in
    record {
      whole = ap (λ b. fold tighter_of (Some b) rest) is ∙ sym (ap (fold tighter_of best) same) ∙ before.whole;
      wide = λ h. before.wide (subst P (sym same) (comparable, subst Q is h));
      back = λ h. subst Q (sym is) (subst P same (before.back h)).1;
    }

pub best-narrow : (below : Bool) (bounds : List Bound) (best : Option Bound) (i : ℕ) (d : Bound) → i < length bounds → has_sign below (get_or bounds i d).coef ≡ true
    → ¬ AreComparable best (get_or bounds i d) → BestSoFar below bounds best i → ¬ CompareWide None (from_side below bounds)
best-narrow below bounds best i d inside passes narrow before all =
    let P : List Bound → Type 0 = CompareWide best in
    narrow (subst P (from_side-yes below bounds i d inside passes) (before.back all)).0

pub best-ends : (below : Bool) (bounds : List Bound) (best : Option Bound) (i : ℕ) → length bounds ≤ i → BestSoFar below bounds best i
    → CompareWide None (from_side below bounds) × (best ≡ fold tighter_of None (from_side below bounds))
best-ends below bounds best i past before =
    let none : drop i bounds ≡ [] = drop_of_length-le bounds past in
    let P : List Bound → Type 0 = λ xs. CompareWide best (from_side below xs) in
    (before.wide (subst P (sym none) tt), sym (ap (λ xs. fold tighter_of best (from_side below xs)) none) ∙ before.whole)

-- one more row's bound
pub bound_more : (column i : ℕ) (point : RatPoint) (rows : List Numbered) (it : Numbered) (bounds new : List Bound) (rest coef : ℤ) → i < length rows → it ≡ get_or rows i it
    → bounds ≡ map (bound_of column point) (take i rows) → rest ≡ value_over it.row point → coef ≡ coef_at column it
    → (let bound : Bound = record { rest = rest; coef = coef } in new ≡ bounds ++ bound ∷ []) → new ≡ map (bound_of column point) (take (i + 1) rows)
bound_more column i point rows it bounds new rest coef inside is before rest_is coef_is pushed =
    let made : ℤ → ℤ → Bound = λ r c. record { rest = r; coef = c } in
    let here : made rest coef ≡ bound_of column point it =
    ap (λ r. made r coef) rest_is ∙ ap (λ c. made (value_over it.row point) c) coef_is in
    map-take-more (bound_of column point) rows i it (made rest coef) bounds new inside before (here ∙ ap (bound_of column point) is) pushed

pub bound_is_wide : (bounds new : List Bound) (rest coef : ℤ) → All HasWideBound bounds → IsWide rest → IsWide coef
    → (let bound : Bound = record { rest = rest; coef = coef } in new ≡ bounds ++ bound ∷ []) → All HasWideBound new
bound_is_wide bounds new rest coef before rest_wide coef_wide pushed =
    let bound : Bound = record { rest = rest; coef = coef } in
    let P : List Bound → Type 0 = λ xs. All HasWideBound xs in
    subst P (sym pushed) (All-push HasWideBound bounds bound before (record { rest = rest_wide; coef = coef_wide }))

-- a bound from a side can be taken
pub can_be_taken : (below : Bool) (bound : Bound) → has_sign below bound.coef ≡ true → HasWideBound bound → CanBeTaken bound
can_be_taken below bound sign wide = record { wide = wide; nonzero = nonzero_from_sign below bound.coef sign }

pub factor_is_positive : (bound : Option Bound) → IfSome bound CanBeTaken → pos 0 <ℤ factor_at bound
factor_is_positive None h = omega (arith, ints)
factor_is_positive (Some bound) h = h.nonzero
