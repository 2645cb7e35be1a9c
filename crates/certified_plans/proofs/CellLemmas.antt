-- Coordinates that agree modulo the factors may be those of one word.
use Rattle.std.proofs.Common.{◌≡◌, inl, inr, ⊎_elim, ℕ, zero, suc, ◌+◌, ◌-◌, ◌*◌, ◌/◌, ◌%◌, ◌<◌, ◌≤◌, List, [], ◌∷◌, ◌++◌, true, false, Option, Some, None, refl, sym, ap, subst, ◌∙◌, arith, div-add-mod', mod-lt, mul-le-mul_right, add-mul, suc-mul}
use Rattle.std.specs.Prelude.{ℤ, pos, negsuc, ◌+ℤ◌, unsigned_abs}
use Rattle.std.specs.FinMap.{get}
use Rattle.std.specs.Int.{int_rem_euclid}
use Rattle.std.specs.Option.{option_map_or}
use Rattle.std.specs.Str.{bytes_eq}
use Rattle.std.proofs.lemmas.Int.{ints}
use Rattle.std.proofs.lemmas.Slice.Eq.{bytes_eq-Decides}
use Rattle.execution.specs.declared.instance.Instance.{Instance}
use Rattle.execution.proofs.Lists.{within_or_past}
use Rattle.plan_words.specs.Cells.{reduced, all_reduced, coordinates_of, AreOneCell}
use Rattle.target_map.specs.Settings.{TargetMapping, IsMapping}
use Rattle.target_map.specs.Storage.{MayMeet, MayShare, shares_space}
use Rattle.target_map.specs.Times.{storage_of, cell_at}
use Rattle.target_map.specs.declared.storage.Storage.{Storage}

-- a number is its remainder and so many times the divisor, more or less
record Splits (m : ℕ) (z : ℤ) : Type 0 where
  rest : ℕ
  is_rest : int_rem_euclid z (pos m) ≡ pos rest
  times : ℕ
  back : ℕ
  whole : z +ℤ pos (back * m) ≡ pos (times * m + rest)

split : (n : ℕ) (z : ℤ) → Splits (suc n) z
split n (pos a) = record {
  rest = a % suc n;
  is_rest = refl;
  times = a / suc n;
  back = 0;
  whole = let parts = div-add-mod' a (suc n) in omega (arith, ints, parts);
}
split n (negsuc a) = record {
  rest = suc n - 1 - a % suc n;
  is_rest = refl;
  times = 0;
  back = suc (a / suc n);
  whole =
      let parts = div-add-mod' a (suc n) in
      let small : a % suc n < suc n = mod-lt a (omega arith) in
      let once : suc (a / suc n) * suc n ≡ (a / suc n) * suc n + suc n = suc-mul (a / suc n) (suc n) in
      omega (arith, ints, parts, small, once);
}

apart : (m i j k l : ℕ) → k + j < i + l → m + (k * m + j * m) ≤ i * m + l * m
apart m i j k l less =
    let more : suc (k + j) * m ≤ (i + l) * m = mul-le-mul_right m less in
    let first : suc (k + j) * m ≡ (k + j) * m + m = suc-mul (k + j) m in
    let second : (k + j) * m ≡ k * m + j * m = add-mul k j m in
    let third : (i + l) * m ≡ i * m + l * m = add-mul i l m in
    omega (arith, more, first, second, third)

meet : (n : ℕ) (a b : ℤ) → int_rem_euclid a (pos (suc n)) ≡ int_rem_euclid b (pos (suc n)) → MayMeet (suc n) a b
meet n a b same =
    let x = split n a in
    let y = split n b in
    let rests : x.rest ≡ y.rest = ap unsigned_abs (sym x.is_rest ∙ (same ∙ y.is_rest)) in
    by x y rests
  where
    by : (x : Splits (suc n) a) (y : Splits (suc n) b) → x.rest ≡ y.rest → MayMeet (suc n) a b
    by x y rests =
        let one = x.whole in
        let two = y.whole in
        ⊎_elim
        (λ less. let gap = apart (suc n) y.times y.back x.times x.back less in inr (inr (omega (arith, ints, one, two, rests, gap))))
        (λ past. ⊎_elim
        (λ less. let gap = apart (suc n) x.times x.back y.times y.back less in inr (inl (omega (arith, ints, one, two, rests, gap))))
        (λ other.
        let equal : x.times + y.back ≡ y.times + x.back = omega (arith, past, other) in
        let products = ap (λ t. t * suc n) equal in
        let left : (x.times + y.back) * suc n ≡ x.times * suc n + y.back * suc n = add-mul x.times y.back (suc n) in
        let right : (y.times + x.back) * suc n ≡ y.times * suc n + x.back * suc n = add-mul y.times x.back (suc n) in
        inl (omega (arith, ints, one, two, rests, products, left, right)))
        (within_or_past (y.times + x.back) (x.times + y.back)))
        (within_or_past (x.times + y.back) (y.times + x.back))

may_meet : (factor : ℕ) (a b : ℤ) → reduced factor a ≡ reduced factor b → MayMeet factor a b
may_meet zero a b same = same
may_meet (suc n) a b same = meet n a b same

pub may_share : (factors : List ℕ) (xs ys : List ℤ) → all_reduced factors xs ≡ all_reduced factors ys → MayShare factors xs ys
may_share [] xs ys same = tt
may_share (factor ∷ factors) [] ys same = tt
may_share (factor ∷ factors) (x ∷ xs) [] same = tt
may_share (factor ∷ factors) (x ∷ xs) (y ∷ ys) same =
    let first : reduced factor x ≡ reduced factor y = cc in
    let rest : all_reduced factors xs ≡ all_reduced factors ys = cc in
    (may_meet factor x y first, may_share factors xs ys rest)

abbrev nothing : Storage
nothing = record { space = []; map = record { width = 0; rows = [] }; factors = [] }

-- the factors of one space
same_factors : (m : TargetMapping) → IsMapping m → (x y : ℕ) → shares_space m x y ≡ true → (storage_of m x).factors ≡ (storage_of m y).factors
same_factors m keeps x y space = by (get m.storages x) refl (get m.storages y) refl space
  where
    by : (o : Option Storage) → get m.storages x ≡ o → (q : Option Storage) → get m.storages y ≡ q →
        option_map_or (λ (first : Storage). option_map_or (λ (second : Storage). bytes_eq first.space second.space) q false) o false ≡ true →
        (option_map_or (λ (s : Storage). s) o nothing).factors ≡ (option_map_or (λ (s : Storage). s) q nothing).factors
    by None e q f h = cc
    by (Some first) e None f h = cc
    by (Some first) e (Some second) f h = keeps.spaces x first e y second f ((bytes_eq-Decides first.space second.space).0 h)

-- two instances of one cell may be kept in one word
pub one_cell_shares : (m : TargetMapping) → IsMapping m → (params : List ℤ) (u v : Instance) → AreOneCell m params u v →
    MayShare (storage_of m u.variable).factors (cell_at m v.variable (params ++ v.point)) (cell_at m u.variable (params ++ u.point))
one_cell_shares m keeps params u v one =
    may_share (storage_of m u.variable).factors (cell_at m v.variable (params ++ v.point)) (cell_at m u.variable (params ++ u.point))
    (subst (λ factors. all_reduced factors (cell_at m v.variable (params ++ v.point)) ≡ coordinates_of m params u) (sym (same_factors m keeps u.variable v.variable one.space)) (sym one.coordinates))
