-- What the rows of a stamp give at a point: the stamp of the instance there.
use Rattle.std.proofs.Common.{◌≡◌, ℕ, ℤ, pos, List, [], ◌∷◌, ◌++◌, length, map, replicate, Bool, true, false, refl, ap, ap₂, ◌∙◌, arith, All, length-append}
use Rattle.std.specs.Prelude.{if◌then◌else◌}
use Rattle.std.proofs.lemmas.Int.{ints}
use Rattle.std.proofs.lemmas.List.{map-append}
use Rattle.az_lin.specs.Affine.{Affine, HasWidth, dot, value_at, image_of}
use Rattle.az_lin.proofs.Columns.{dot-padded}
use Rattle.az_lin.proofs.Substitution.{image_of-composed}
use Rattle.target_map.specs.Kinds.{is_outer, is_band, is_processor, is_inner}
use Rattle.target_map.specs.Settings.{TargetMapping, order_number}
use Rattle.target_map.specs.Stamps.{Stamp, part, stamp}
use Rattle.target_map.specs.Times.{time_of, stamp_at}
use Rattle.target_map.specs.declared.kind.Kind.{Kind}
use Rattle.order_sets.specs.NotBefore.{values, stamp_values}
use Rattle.order_sets.specs.Alike.{AreAlike}
use Rattle.order_sets.specs.Visits.{number_row, time_map, time_rows}
use Rattle.order_sets.specs.declared.visit.Visit.{Visit}

-- a part of mapped coordinates
part_mapped : {A B : Type 0} (f : A → B) (test : Kind → Bool) (kinds : List Kind) (xs : List A) → map f (part test kinds xs) ≡ part test kinds (map f xs)
part_mapped f test [] xs = refl
part_mapped f test (kind ∷ kinds) [] = refl
part_mapped {A} {B} f test (kind ∷ kinds) (x ∷ xs) = by (test kind) (part_mapped f test kinds xs)
  where
    by : (b : Bool) → map f (part test kinds xs) ≡ part test kinds (map f xs)
        → map f (if b then x ∷ part test kinds xs else part test kinds xs) ≡ (if b then f x ∷ part test kinds (map f xs) else part test kinds (map f xs))
    by true rest = ap (λ (ys : List B). f x ∷ ys) rest
    by false rest = rest

pub part_long : {A : Type 0} (test : Kind → Bool) (kinds : List Kind) (xs ys : List A) → length xs ≡ length ys → length (part test kinds xs) ≡ length (part test kinds ys)
part_long test [] xs ys long = refl
part_long test (kind ∷ kinds) [] [] long = refl
part_long test (kind ∷ kinds) [] (y ∷ ys) long = absurd (omega arith)
part_long test (kind ∷ kinds) (x ∷ xs) [] long = absurd (omega arith)
part_long test (kind ∷ kinds) (x ∷ xs) (y ∷ ys) long = by (test kind) (part_long test kinds xs ys (omega arith))
  where
    by : (b : Bool) → length (part test kinds xs) ≡ length (part test kinds ys)
        → length (if b then x ∷ part test kinds xs else part test kinds xs) ≡ length (if b then y ∷ part test kinds ys else part test kinds ys)
    by true rest = omega (arith, rest)
    by false rest = rest

-- stamps of one length are cut alike
pub cut_alike : (kinds : List Kind) (a b : Affine) (xs ys : List Affine) → length xs ≡ length ys → AreAlike (stamp kinds a xs) (stamp kinds b ys)
cut_alike kinds a b xs ys long =
    let band = part_long is_band kinds xs ys long in
    let inner = part_long is_inner kinds xs ys long in
    let bands = part is_band kinds xs in
    let inners = part is_inner kinds xs in
    let bands' = part is_band kinds ys in
    let inners' = part is_inner kinds ys in
    record {
      outer = part_long is_outer kinds xs ys long;
      band = band;
      processor = part_long is_processor kinds xs ys long;
      tile = omega (arith, band, inner, length-append bands (inners ++ a ∷ []), length-append inners (a ∷ []), length-append bands' (inners' ++ b ∷ []), length-append inners' (b ∷ []));
    }

number_is : (width number : ℕ) (z : List ℤ) → value_at (number_row width number) z ≡ pos number
number_is width number z =
    let none : dot (replicate width (pos 0)) z ≡ dot [] z = dot-padded [] width z in
    omega (arith, ints, none)

stamp_same : (u v : Stamp ℤ) → u.outer ≡ v.outer → u.band ≡ v.band → u.processor ≡ v.processor → u.tile ≡ v.tile → u ≡ v
stamp_same u v outer band processor tile = λ t. record { outer = outer t; band = band t; processor = processor t; tile = tile t }

module _ (z : List ℤ) where
  abbrev val : Affine → ℤ
  val row = value_at row z

  stamp_is : (kinds : List Kind) (a : Affine) (n : ℤ) (xs : List Affine) → val a ≡ n → stamp_values z (stamp kinds a xs) ≡ stamp kinds n (map val xs)
  stamp_is kinds a n xs is =
      let outer = part_mapped val is_outer kinds xs in
      let band = part_mapped val is_band kinds xs in
      let processor = part_mapped val is_processor kinds xs in
      let inner = part_mapped val is_inner kinds xs in
      let tile : values z (part is_band kinds xs ++ (part is_inner kinds xs ++ a ∷ [])) ≡ part is_band kinds (map val xs) ++ (part is_inner kinds (map val xs) ++ n ∷ []) =
      map-append val (part is_band kinds xs) (part is_inner kinds xs ++ a ∷ [])
      ∙ ap₂ (λ (b c : List ℤ). b ++ c) band (map-append val (part is_inner kinds xs) (a ∷ []) ∙ ap₂ (λ (b : List ℤ) (c : ℤ). b ++ c ∷ []) inner is) in
      stamp_same (stamp_values z (stamp kinds a xs)) (stamp kinds n (map val xs)) outer band processor tile

  -- the rows of an instance's time give its stamp
  pub time_is : (m : TargetMapping) (visit : Visit) → All (HasWidth visit.at.width) visit.at.rows → stamp_values z (time_rows m visit) ≡ stamp_at m visit.variable (image_of visit.at z)
  time_is m visit wide =
      let number = order_number m.statements visit.variable in
      stamp_is m.kinds (number_row visit.at.width number) (pos number) (time_map m visit).rows (number_is visit.at.width number z)
      ∙ ap (λ (xs : List ℤ). stamp m.kinds (pos number) xs) (image_of-composed (time_of m visit.variable) visit.at z wide)
