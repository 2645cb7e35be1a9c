-- The order of items by their keys.
use Rattle.std.proofs.Common.{◌≡◌, inl, inr, ⊎_elim, ℕ, zero, suc, ◌<◌, true, false, List, [], ◌∷◌, ◌++◌, length, get_or, slice_get, Some, None, reverse, refl, sym, ap, subst, ◌∙◌, arith, IsSorted}
use Rattle.std.specs.Cmp.{IsTotalOrder}
use Rattle.std.specs.Cmp.Lexicographic.{slice_cmp, lists_total}
use Rattle.std.specs.Ordering.{int_cmp, ordering_then, ordering_reverse, is_lt}
use Rattle.std.specs.declared.cmp.Ordering.{Ordering}
use Rattle.std.specs.declared.cmp.Ordering.TheVariants.{Less, Equal, Greater}
use Rattle.std.proofs.lemmas.Cmp.{int_cmp_total, on_total, then_total}
use Rattle.std.proofs.lemmas.List.{reverse-append}
use Rattle.std.proofs.lemmas.List.Sorted.{ranks_by, sorted_far}
use Rattle.std.proofs.lemmas.Option.{slice_get_within, get_or_from_slice_get}
use Rattle.az_ast.specs.Points.{Precedes}
use Rattle.az_ast.proofs.TableLemmas.{same_point, equal_points}
use Rattle.tile_waves.specs.Inner.Items.{item_cmp}
use Rattle.tile_waves.specs.declared.item.Item.{Item}
use Rattle.tile_waves.specs.declared.level.Level.TheVariants.{Wave, Tile}
use Rattle.tile_waves.proofs.Cuts.{IsFalling, KeyUpTo, snoc_cases, snoc_old, snoc_new}

points_total : IsTotalOrder (slice_cmp int_cmp)
points_total = lists_total int_cmp_total

pub item_total : IsTotalOrder item_cmp
item_total = then_total (on_total (λ (item : Item). item.wave) points_total) (then_total (on_total (λ (item : Item). item.tile) points_total) (on_total (λ (item : Item). item.work) points_total))

abbrev pub IsFirst : Item → Item → Type 0
IsFirst y x = item_cmp y x ≡ Less

-- and in one wave
abbrev pub IsFirstIn : Item → Item → Type 0
IsFirstIn y x = (y.wave ≡ x.wave) × IsFirst y x

pub wave_upward : (y x : Item) → IsFirst y x → KeyUpTo Wave y x
wave_upward y x h = by (slice_cmp int_cmp y.wave x.wave) refl h
  where
    rest : Ordering
    rest = ordering_then (slice_cmp int_cmp y.tile x.tile) (slice_cmp int_cmp y.work x.work)

    by : (r : Ordering) → slice_cmp int_cmp y.wave x.wave ≡ r → ordering_then r (ordering_then (slice_cmp int_cmp y.tile x.tile) (slice_cmp int_cmp y.work x.work)) ≡ Less → KeyUpTo Wave y x
    by Less is g = inr is
    by Equal is g = inl (same_point y.wave x.wave is)
    by Greater is g = absurd (let two : Greater ≡ Less = g in cc)

-- what is left where the waves are one
in_wave : (y x : Item) → IsFirstIn y x → ordering_then (slice_cmp int_cmp y.tile x.tile) (slice_cmp int_cmp y.work x.work) ≡ Less
in_wave y x h =
    subst (λ r. ordering_then r (ordering_then (slice_cmp int_cmp y.tile x.tile) (slice_cmp int_cmp y.work x.work)) ≡ Less) (equal_points y.wave x.wave h.0) h.1

pub tile_upward : (y x : Item) → IsFirstIn y x → KeyUpTo Tile y x
tile_upward y x h = by (slice_cmp int_cmp y.tile x.tile) refl (in_wave y x h)
  where
    by : (r : Ordering) → slice_cmp int_cmp y.tile x.tile ≡ r → ordering_then r (slice_cmp int_cmp y.work x.work) ≡ Less → KeyUpTo Tile y x
    by Less is g = inr is
    by Equal is g = inl (same_point y.tile x.tile is)
    by Greater is g = absurd (let two : Greater ≡ Less = g in cc)

pub work_rises : (y x : Item) → IsFirstIn y x → y.tile ≡ x.tile → Precedes y.work x.work
work_rises y x h same = subst (λ r. ordering_then r (slice_cmp int_cmp y.work x.work) ≡ Less) (equal_points y.tile x.tile same) (in_wave y x h)

-- items that are tied have the same keys
pub record IsTied (y x : Item) : Type 0 where
  pub wave : y.wave ≡ x.wave
  pub tile : y.tile ≡ x.tile
  pub work : y.work ≡ x.work

pub tied : (y x : Item) → item_cmp y x ≡ Equal → IsTied y x
tied y x h = by (slice_cmp int_cmp y.wave x.wave) (slice_cmp int_cmp y.tile x.tile) (slice_cmp int_cmp y.work x.work) refl refl refl h
  where
    by : (a b c : Ordering) → slice_cmp int_cmp y.wave x.wave ≡ a → slice_cmp int_cmp y.tile x.tile ≡ b → slice_cmp int_cmp y.work x.work ≡ c → ordering_then a (ordering_then b c) ≡ Equal → IsTied y x
    by Less b c one two three g = absurd (let wrong : Less ≡ Equal = g in cc)
    by Greater b c one two three g = absurd (let wrong : Greater ≡ Equal = g in cc)
    by Equal Less c one two three g = absurd (let wrong : Less ≡ Equal = g in cc)
    by Equal Greater c one two three g = absurd (let wrong : Greater ≡ Equal = g in cc)
    by Equal Equal c one two three g = record { wave = same_point y.wave x.wave one; tile = same_point y.tile x.tile two; work = same_point y.work x.work (three ∙ g) }

-- each item is before those behind it
abbrev pub IsRising : (R : Item → Item → Type 0) → List Item → Type 0
IsRising R xs = (i j : ℕ) (x y : Item) → slice_get xs i ≡ Some x → slice_get xs j ≡ Some y → i < j → R x y

pub rising_sorted :
    (items : List Item) → IsSorted item_cmp items →
    ((i j : ℕ) (x y : Item) → slice_get items i ≡ Some x → slice_get items j ≡ Some y → IsTied x y → i ≡ j) → IsRising IsFirst items
rising_sorted items sorted apart i j x y at_i at_j l = by (item_cmp y x) refl not_less
  where
    not_less : is_lt (item_cmp y x) ≡ false
    not_less =
        let far = sorted_far (λ a b. is_lt (item_cmp a b)) (ranks_by item_total (λ (item : Item). item)) items sorted i j x (omega (arith, l)) (slice_get_within items j y at_j) in
        let one : get_or items j x ≡ y = get_or_from_slice_get items j y x at_j in
        let two : get_or items i x ≡ x = get_or_from_slice_get items i x x at_i in
        (λ k. is_lt (item_cmp (sym one k) (sym two k))) ∙ far

    by : (r : Ordering) → item_cmp y x ≡ r → is_lt (item_cmp y x) ≡ false → item_cmp x y ≡ Less
    by Less is g = absurd (let wrong : true ≡ false = sym (ap is_lt is) ∙ g in cc)
    by Equal is g = absurd (let same = apart i j x y at_i at_j (let t = tied y x is in record { wave = sym t.wave; tile = sym t.tile; work = sym t.work }) in omega (arith, same, l))
    by Greater is g = item_total.antisymm x y ∙ ap ordering_reverse is

-- in reverse
module _ (R : Item → Item → Type 0) where
  falling_snoc : (ys : List Item) (x : Item) → IsFalling R ys → ((k : ℕ) (y : Item) → slice_get ys k ≡ Some y → R x y) → IsFalling R (ys ++ x ∷ [])
  falling_snoc [] x falling first = (λ k y h. absurd (let none : None ≡ Some y = h in cc), tt)
  falling_snoc (z ∷ ys) x falling first = (
    λ k y h. ⊎_elim (λ old. falling.0 k y old) (λ new. subst (λ w. R w z) (sym new.1) (first 0 z refl)) (snoc_cases ys x y k h),
    falling_snoc ys x falling.1 (λ k y h. first (suc k) y h),
  )

  reverse_more : (x : Item) (xs : List Item) → reverse (x ∷ xs) ≡ reverse xs ++ x ∷ []
  reverse_more x xs = reverse-append (x ∷ []) xs

  pub in_reverse : (xs : List Item) (k : ℕ) (y : Item) → slice_get (reverse xs) k ≡ Some y → (i : ℕ) × (slice_get xs i ≡ Some y)
  in_reverse [] k y h = absurd (let none : None ≡ Some y = h in cc)
  in_reverse (x ∷ xs) k y h =
      ⊎_elim (λ old. let one = in_reverse xs k y old in (suc one.0, one.1)) (λ new. (0, ap Some (sym new.1)))
      (snoc_cases (reverse xs) x y k (sym (ap (λ zs. slice_get zs k) (reverse_more x xs)) ∙ h))

  pub from_reverse : (xs : List Item) (k : ℕ) (y : Item) → slice_get xs k ≡ Some y → (i : ℕ) × (slice_get (reverse xs) i ≡ Some y)
  from_reverse [] k y h = absurd (let none : None ≡ Some y = h in cc)
  from_reverse (x ∷ xs) zero y h =
      (length (reverse xs), ap (λ zs. slice_get zs (length (reverse xs))) (reverse_more x xs) ∙ (snoc_new (reverse xs) x ∙ h))
  from_reverse (x ∷ xs) (suc k) y h =
      let one = from_reverse xs k y h in (one.0, ap (λ zs. slice_get zs one.0) (reverse_more x xs) ∙ snoc_old (reverse xs) x y one.0 one.1)

  pub falling_reverse : (xs : List Item) → IsRising R xs → IsFalling R (reverse xs)
  falling_reverse [] rising = tt
  falling_reverse (x ∷ xs) rising =
      subst (IsFalling R) (sym (reverse_more x xs))
      (falling_snoc (reverse xs) x (falling_reverse xs (λ i j y z h g l. rising (suc i) (suc j) y z h g (omega (arith, l))))
      (λ k y h. let one = in_reverse xs k y h in rising 0 (suc one.0) x y refl one.1 (omega arith)))
