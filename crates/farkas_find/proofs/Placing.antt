-- A column's number put into a point, and the columns of a trail one by one from the last.
use Rattle.std.proofs.Common.{◌≡◌, ◌∙◌, ℕ, zero, suc, ◌<◌, ap, sym, subst, refl, true, false, cond, List, [], ◌∷◌, length, get_or, drop, All, Option, Some, None, SomeIff, is_some, pos}
use Rattle.std.proofs.Math.Seq.{drop-cons}
use Rattle.std.proofs.lemmas.List.{length-map}
use Rattle.std.specs.Int.{int_div_euclid}
use Rattle.az_lin.specs.Affine.{Affine}
use Rattle.az_lin.specs.Combination.{quotient}
use Rattle.az_lin.specs.CommonDivisor.{gcd_of_all}
use Rattle.az_lin.specs.RationalPoint.{IsWideAt}
use Rattle.az_lin.specs.declared.step.RatPoint.{RatPoint}
use Rattle.farkas_find.specs.Tidying.{is_rounded, rounded}
use Rattle.farkas_find.specs.declared.bound.Bound.{Bound}
use Rattle.farkas_find.specs.declared.trail.Eliminated.{Eliminated}
use Rattle.farkas_find.specs.BackSubstitution.{cleared, bounds_at, taken, factor_at, placed_by, placed, point_from, TakenWide, ScaledWide, PlacedWide, PointWide}

pub placed_exact : (gone : Eliminated) (point : RatPoint) (got : Option RatPoint) (bounds : List Bound) (bound : Option Bound)
    → All (λ it. IsWideAt (cleared gone.column point) it.row) gone.rows → bounds ≡ bounds_at gone (cleared gone.column point)
    → TakenWide bounds → bound ≡ taken bounds
    → SomeIff got (ScaledWide (factor_at bound) (cleared gone.column point)) (placed_by gone.column bound (cleared gone.column point))
    → SomeIff got (PlacedWide gone (cleared gone.column point)) (placed gone point)
unfolding placed
placed_exact gone point None bounds bound rests are wide is h =
    let free = cleared gone.column point in
    let P : Option Bound → Type 0 = λ b. ScaledWide (factor_at b) free in
    λ w. h (subst P (sym (is ∙ ap taken are)) w.scales)
placed_exact gone point (Some result) bounds bound rests are wide is h =
    let free = cleared gone.column point in
    let P : Option Bound → Type 0 = λ b. ScaledWide (factor_at b) free in
    let same : bound ≡ taken (bounds_at gone free) = is ∙ ap taken are in
    (record { rests = rests; takes = subst TakenWide are wide; scales = subst P same h.0 }, h.1 ∙ ap (λ b. placed_by gone.column b free) same)

PointWide-drop : (trail : List Eliminated) (j : ℕ) (point : RatPoint) → PointWide trail point → PointWide (drop j trail) point
PointWide-drop [] zero point h = h
PointWide-drop [] (suc j) point h = h
PointWide-drop (gone ∷ trail) zero point h = h
PointWide-drop (gone ∷ trail) (suc j) point h = PointWide-drop trail j point h.0

pub found_narrow : (trail : List Eliminated) (j k : ℕ) (gone : Eliminated) (point found : RatPoint) → k ≡ suc j → j < length trail → gone ≡ get_or trail j gone
    → found ≡ point_from (drop k trail) point → ¬ PlacedWide gone (cleared gone.column found) → ¬ PointWide trail point
found_narrow trail j k gone point found next inside is so_far narrow all =
    let opened : drop j trail ≡ gone ∷ drop k trail = drop-cons trail j gone inside ∙ ap (λ g. g ∷ drop (suc j) trail) (sym is) ∙ ap (λ n. gone ∷ drop n trail) (sym next) in
    let P : List Eliminated → Type 0 = λ t. PointWide t point in
    let Q : RatPoint → Type 0 = λ p. PlacedWide gone (cleared gone.column p) in
    narrow (subst Q (sym so_far) (subst P opened (PointWide-drop trail j point all)).1)

pub found_more : (trail : List Eliminated) (j k : ℕ) (gone : Eliminated) (point found next : RatPoint) → k ≡ suc j → j < length trail → gone ≡ get_or trail j gone
    → found ≡ point_from (drop k trail) point → PointWide (drop k trail) point → PlacedWide gone (cleared gone.column found) → next ≡ placed gone found
    → (next ≡ point_from (drop j trail) point) × PointWide (drop j trail) point
found_more trail j k gone point found next step inside is so_far before wide places =
    let opened : drop j trail ≡ gone ∷ drop k trail = drop-cons trail j gone inside ∙ ap (λ g. g ∷ drop (suc j) trail) (sym is) ∙ ap (λ n. gone ∷ drop n trail) (sym step) in
    let P : List Eliminated → Type 0 = λ t. PointWide t point in
    let Q : RatPoint → Type 0 = λ p. PlacedWide gone (cleared gone.column p) in
    (places ∙ ap (placed gone) so_far ∙ sym (ap (λ t. point_from t point) opened), subst P (sym opened) (before, subst Q so_far wide))

pub wide_when_some : {A : Type 0} (got : Option A) (P : Type 0) (value : A) → is_some got ≡ true → SomeIff got P value → P
wide_when_some None P value some h = cc
wide_when_some (Some x) P value some h = h.0

pub length-rounded : (row : Affine) → length (rounded row).coefs ≡ length row.coefs
unfolding rounded
length-rounded row =
    elim (is_rounded row) as (λ b. length (cond b (quotient row (pos (gcd_of_all row.coefs))) row).coefs ≡ length row.coefs)
    [ true ↦ length-map row.coefs (λ z. int_div_euclid z (pos (gcd_of_all row.coefs))) | false ↦ refl ]
