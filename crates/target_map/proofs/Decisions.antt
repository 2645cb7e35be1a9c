-- A test of which instance is before which, and the pairs that it decides.
use Rattle.std.proofs.Common.{◌≡◌, ◌⊎◌, inl, inr, ℕ, Bool, true, false, not, ◌&&◌, ◌||◌, List, [], ◌∷◌, refl, sym, ap, subst, ◌∙◌, arith}
use Rattle.std.specs.Prelude.{ℤ, pos, ◌≤ℤ◌, ◌<ℤ◌, ◌==◌}
use Rattle.std.specs.List.{AllByRecursion}
use Rattle.std.specs.Ordering.{int_cmp, is_lt, is_eq}
use Rattle.std.specs.Cmp.Lexicographic.{slice_cmp}
use Rattle.std.specs.declared.cmp.Ordering.{Ordering}
use Rattle.std.specs.declared.cmp.Ordering.TheVariants.{Less, Equal, Greater}
use Rattle.std.proofs.lemmas.Bool.{eqb-true}
use Rattle.std.proofs.lemmas.Cmp.{int_ranked}
use Rattle.std.proofs.lemmas.Int.{ints}
use Rattle.az_ast.specs.Points.{Precedes}
use Rattle.az_ast.proofs.DistinctNumbers.{either}
use Rattle.az_ast.proofs.ShapeParts.{neither}
use Rattle.az_ast.proofs.TableLemmas.{same_point, equal_points}
use Rattle.target_map.specs.Before.{Before, in_outer_step, in_unit_tile, in_same_tile, NoneExceeds, SomeUnitLess}
use Rattle.target_map.specs.Examples.{Pair, pairs, PairIsBefore, Claims, IsTold, PairsAreTold}
use Rattle.target_map.specs.Kinds.{tile_sizes}
use Rattle.target_map.specs.Stamps.{Stamp, stamp}

both_true : (a b : Bool) → (a && b) ≡ true → (a ≡ true) × (b ≡ true)
both_true true b is = (refl, is)
both_true false b is = cc

not_both_true : (a b : Bool) → (a && b) ≡ false → (a ≡ false) ⊎ (b ≡ false)
not_both_true true b is = inr is
not_both_true false b is = inl refl

other_test : (b : Bool) → b ≡ true → b ≡ false → ⊥
other_test b right wrong = let two : true ≡ false = sym right ∙ wrong in cc

is_less : (r : Ordering) → is_lt r ≡ true → r ≡ Less
is_less Less is = refl
is_less Equal is = cc
is_less Greater is = cc

is_tied : (r : Ordering) → is_eq r ≡ true → r ≡ Equal
is_tied Less is = cc
is_tied Equal is = refl
is_tied Greater is = cc

-- whole numbers
abbrev lt : ℤ → ℤ → Bool
lt x y = is_lt (int_cmp x y)

lt_true : (x y : ℤ) → lt x y ≡ true → x <ℤ y
lt_true x y is = int_ranked x y Less (sym (is_less (int_cmp x y) is))

lt_false : (x y : ℤ) → lt x y ≡ false → x <ℤ y → ⊥
lt_false x y is less = by (int_cmp x y) refl is
  where
    by : (r : Ordering) → r ≡ int_cmp x y → is_lt r ≡ false → ⊥
    by Less same wrong = let two : true ≡ false = wrong in cc
    by Equal same wrong = let equal : x ≡ y = int_ranked x y Equal same in omega (arith, ints, equal, less)
    by Greater same wrong = let more : y <ℤ x = int_ranked x y Greater same in omega (arith, ints, more, less)

-- points
abbrev precedes : List ℤ → List ℤ → Bool
precedes a b = is_lt (slice_cmp int_cmp a b)

abbrev same : List ℤ → List ℤ → Bool
same a b = is_eq (slice_cmp int_cmp a b)

precedes_false : (a b : List ℤ) → precedes a b ≡ false → Precedes a b → ⊥
precedes_false a b is less = other_test (precedes a b) (ap is_lt less) is

same_true : (a b : List ℤ) → same a b ≡ true → a ≡ b
same_true a b is = same_point a b (is_tied (slice_cmp int_cmp a b) is)

same_false : (a b : List ℤ) → same a b ≡ false → a ≡ b → ⊥
same_false a b is equal = other_test (same a b) (ap is_eq (equal_points a b equal)) is

-- the band
abbrev none_exceeds : List ℤ → List ℤ → Bool
none_exceeds [] ys = true
none_exceeds (x ∷ xs) [] = true
none_exceeds (x ∷ xs) (y ∷ ys) = not (lt y x) && none_exceeds xs ys

turned_true : (b : Bool) → not b ≡ true → b ≡ false
turned_true true is = cc
turned_true false is = refl

turned_false : (b : Bool) → not b ≡ false → b ≡ true
turned_false true is = refl
turned_false false is = cc

at_most : (x y : ℤ) → lt y x ≡ false → x ≤ℤ y
at_most x y is = by (int_cmp y x) refl is
  where
    by : (r : Ordering) → r ≡ int_cmp y x → is_lt r ≡ false → x ≤ℤ y
    by Less equal wrong = let two : true ≡ false = wrong in cc
    by Equal equal wrong = let here : y ≡ x = int_ranked y x Equal equal in omega (arith, ints, here)
    by Greater equal wrong = let more : x <ℤ y = int_ranked y x Greater equal in omega (arith, ints, more)

none_true : (xs ys : List ℤ) → none_exceeds xs ys ≡ true → NoneExceeds xs ys
none_true [] ys is = tt
none_true (x ∷ xs) [] is = tt
none_true (x ∷ xs) (y ∷ ys) is =
    let parts = both_true (not (lt y x)) (none_exceeds xs ys) is in
    (at_most x y (turned_true (lt y x) parts.0), none_true xs ys parts.1)

none_false : (xs ys : List ℤ) → none_exceeds xs ys ≡ false → NoneExceeds xs ys → ⊥
none_false [] ys is none = let two : true ≡ false = is in cc
none_false (x ∷ xs) [] is none = let two : true ≡ false = is in cc
none_false (x ∷ xs) (y ∷ ys) is none = elim (not_both_true (not (lt y x)) (none_exceeds xs ys) is) as (λ _. ⊥) [
  | inl here ↦ (let more = lt_true y x (turned_false (lt y x) here) in let within = none.0 in omega (arith, ints, more, within))
  | inr rest ↦ none_false xs ys rest none.1
]

abbrev unit_less : List ℕ → List ℤ → List ℤ → Bool
unit_less [] xs ys = false
unit_less (size ∷ sizes) [] ys = false
unit_less (size ∷ sizes) (x ∷ xs) [] = false
unit_less (size ∷ sizes) (x ∷ xs) (y ∷ ys) = (size == 1 && lt x y) || unit_less sizes xs ys

unit_true : (sizes : List ℕ) (xs ys : List ℤ) → unit_less sizes xs ys ≡ true → SomeUnitLess sizes xs ys
unit_true [] xs ys is = cc
unit_true (size ∷ sizes) [] ys is = cc
unit_true (size ∷ sizes) (x ∷ xs) [] is = cc
unit_true (size ∷ sizes) (x ∷ xs) (y ∷ ys) is = elim (either (size == 1 && lt x y) (unit_less sizes xs ys) is) as (λ _. SomeUnitLess (size ∷ sizes) (x ∷ xs) (y ∷ ys)) [
  | inl here ↦ (let parts = both_true (size == 1) (lt x y) here in inl (eqb-true size 1 parts.0, lt_true x y parts.1))
  | inr rest ↦ inr (unit_true sizes xs ys rest)
]

unit_false : (sizes : List ℕ) (xs ys : List ℤ) → unit_less sizes xs ys ≡ false → SomeUnitLess sizes xs ys → ⊥
unit_false [] xs ys is some = some
unit_false (size ∷ sizes) [] ys is some = some
unit_false (size ∷ sizes) (x ∷ xs) [] is some = some
unit_false (size ∷ sizes) (x ∷ xs) (y ∷ ys) is some =
    let parts = neither (size == 1 && lt x y) (unit_less sizes xs ys) is in
    elim some as (λ _. ⊥) [
      | inl here ↦ elim (not_both_true (size == 1) (lt x y) parts.0) as (λ _. ⊥) [
        | inl size_is ↦ (let one : (size == 1) ≡ true = ap (λ n. n == 1) here.0 in other_test (size == 1) one size_is)
        | inr less_is ↦ lt_false x y less_is here.1
      ]
      | inr rest ↦ unit_false sizes xs ys parts.1 rest
    ]

-- instances
abbrev within_step : List ℕ → Stamp ℤ → Stamp ℤ → Bool
within_step sizes u v = unit_less sizes u.band v.band || (same u.processor v.processor && precedes u.tile v.tile)

abbrev is_before : List ℕ → Stamp ℤ → Stamp ℤ → Bool
is_before sizes u v = precedes u.outer v.outer || (same u.outer v.outer && (none_exceeds u.band v.band && within_step sizes u v))

module _ (sizes : List ℕ) (u v : Stamp ℤ) where
  before_if : is_before sizes u v ≡ true → Before sizes u v
  before_if is = elim (either (precedes u.outer v.outer) (same u.outer v.outer && (none_exceeds u.band v.band && within_step sizes u v)) is) as (λ _. Before sizes u v) [
    | inl earlier ↦ in_outer_step (is_less (slice_cmp int_cmp u.outer v.outer) earlier)
    | inr rest ↦ (
        let outer = both_true (same u.outer v.outer) (none_exceeds u.band v.band && within_step sizes u v) rest in
        let band = both_true (none_exceeds u.band v.band) (within_step sizes u v) outer.1 in
        let equal = same_true u.outer v.outer outer.0 in
        let none = none_true u.band v.band band.0 in
        elim (either (unit_less sizes u.band v.band) (same u.processor v.processor && precedes u.tile v.tile) band.1) as (λ _. Before sizes u v) [
          | inl ahead ↦ in_unit_tile equal none (unit_true sizes u.band v.band ahead)
          | inr inside ↦ (
              let parts = both_true (same u.processor v.processor) (precedes u.tile v.tile) inside in
              in_same_tile equal none (same_true u.processor v.processor parts.0) (is_less (slice_cmp int_cmp u.tile v.tile) parts.1)
              )
        ]
        )
  ]

  module _ (is : is_before sizes u v ≡ false) where
    apart : (precedes u.outer v.outer ≡ false) × ((same u.outer v.outer && (none_exceeds u.band v.band && within_step sizes u v)) ≡ false)
    apart = neither (precedes u.outer v.outer) (same u.outer v.outer && (none_exceeds u.band v.band && within_step sizes u v)) is

    beside : u.outer ≡ v.outer → NoneExceeds u.band v.band → within_step sizes u v ≡ false
    beside equal none = elim (not_both_true (same u.outer v.outer) (none_exceeds u.band v.band && within_step sizes u v) apart.1) as (λ _. within_step sizes u v ≡ false) [
      | inl outer ↦ absurd (same_false u.outer v.outer outer equal)
      | inr rest ↦ elim (not_both_true (none_exceeds u.band v.band) (within_step sizes u v) rest) as (λ _. within_step sizes u v ≡ false) [
        | inl back ↦ absurd (none_false u.band v.band back none)
        | inr last ↦ last
      ]
    ]

    not_before_if : Before sizes u v → ⊥
    not_before_if (in_outer_step less) = precedes_false u.outer v.outer apart.0 less
    not_before_if (in_unit_tile equal none ahead) =
        unit_false sizes u.band v.band (neither (unit_less sizes u.band v.band) (same u.processor v.processor && precedes u.tile v.tile) (beside equal none)).0 ahead
    not_before_if (in_same_tile equal none processor less) =
        elim (not_both_true (same u.processor v.processor) (precedes u.tile v.tile) (neither (unit_less sizes u.band v.band) (same u.processor v.processor && precedes u.tile v.tile) (beside equal none)).1) as (λ _. ⊥) [
          | inl other ↦ same_false u.processor v.processor other processor
          | inr later ↦ precedes_false u.tile v.tile later less
        ]

pub before_or_not : (sizes : List ℕ) (u v : Stamp ℤ) → Before sizes u v ⊎ (Before sizes u v → ⊥)
before_or_not sizes u v = by (is_before sizes u v) refl
  where
    by : (b : Bool) → is_before sizes u v ≡ b → Before sizes u v ⊎ (Before sizes u v → ⊥)
    by true is = inl (before_if sizes u v is)
    by false is = inr (not_before_if sizes u v is)

pub same_or_not : (a b : List ℤ) → (a ≡ b) ⊎ (a ≡ b → ⊥)
same_or_not a b = by (same a b) refl
  where
    by : (c : Bool) → same a b ≡ c → (a ≡ b) ⊎ (a ≡ b → ⊥)
    by true is = inl (same_true a b is)
    by false is = inr (same_false a b is)

-- a pair that the test decides as it is told
decided : (row : Pair) → is_before (tile_sizes row.kinds) (stamp row.kinds (pos row.first_number) row.first) (stamp row.kinds (pos row.second_number) row.second) ≡ row.before → IsTold row
decided row is = by row.before is
  where
    by : (b : Bool) → is_before (tile_sizes row.kinds) (stamp row.kinds (pos row.first_number) row.first) (stamp row.kinds (pos row.second_number) row.second) ≡ b → Claims b (PairIsBefore row)
    by true agreed = before_if (tile_sizes row.kinds) (stamp row.kinds (pos row.first_number) row.first) (stamp row.kinds (pos row.second_number) row.second) agreed
    by false never = not_before_if (tile_sizes row.kinds) (stamp row.kinds (pos row.first_number) row.first) (stamp row.kinds (pos row.second_number) row.second) never

all_decided : (rows : List Pair) → AllByRecursion (λ row. is_before (tile_sizes row.kinds) (stamp row.kinds (pos row.first_number) row.first) (stamp row.kinds (pos row.second_number) row.second) ≡ row.before) rows
    → AllByRecursion IsTold rows
all_decided [] is = tt
all_decided (row ∷ rows) is = (decided row is.0, all_decided rows is.1)

pub pairs_are_told : PairsAreTold
pairs_are_told = all_decided pairs (refl, (refl, (refl, (refl, (refl, (refl, (refl, (refl, (refl, (refl, (refl, (refl, (refl, (refl, (refl, (refl, (refl, (refl, (refl, (refl, (refl, (refl, (refl, (refl, (refl, (refl, tt))))))))))))))))))))))))))
