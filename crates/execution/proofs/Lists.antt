-- Lists of workers and of flags in which one member changes.
use Rattle.std.proofs.Common.{◌≡◌, ◌⊎◌, inl, inr, ⊎_elim, ℕ, zero, suc, ◌+◌, ◌<◌, ◌≤◌, Bool, true, false, List, [], ◌∷◌, ◌++◌, length, get_or, set, map, replicate, slice_get, Some, None, refl, sym, ap, subst, ◌∙◌, arith, get_or-set_same, get_or-set_other}
use Rattle.std.specs.Prelude.{ℤ, ◌==◌}
use Rattle.std.proofs.lemmas.Bool.{eqb-true, eqb-false}
use Rattle.execution.specs.Good.{is_exhausted, exhausted_count}
use Rattle.execution.specs.Plans.{Load}
use Rattle.execution.specs.Sound.{AreFound}
use Rattle.execution.specs.States.{Worker, resting, all_true}
use Rattle.execution.specs.declared.instance.Instance.{Instance}

pub same_or_other : (j k : ℕ) → (j ≡ k) ⊎ (j ≡ k → ⊥)
same_or_other j k = by (j == k) refl
  where
    by : (c : Bool) → (j == k) ≡ c → (j ≡ k) ⊎ (j ≡ k → ⊥)
    by true is = inl (eqb-true j k is)
    by false is = inr (λ same. eqb-false j k is same)

pub true_or_false : (b : Bool) → (b ≡ true) ⊎ (b ≡ false)
true_or_false true = inl refl
true_or_false false = inr refl

pub within_or_past : (i n : ℕ) → (i < n) ⊎ (n ≤ i)
within_or_past zero zero = inr (omega arith)
within_or_past zero (suc n) = inl (omega arith)
within_or_past (suc i) zero = inr (omega arith)
within_or_past (suc i) (suc n) = ⊎_elim (λ h. inl (omega (arith, h))) (λ h. inr (omega (arith, h))) (within_or_past i n)

module _ {X : Type 0} where
  pub set_same : (xs : List X) (k : ℕ) (x y : X) → slice_get xs k ≡ Some y → slice_get (set xs k x) k ≡ Some x
  set_same [] k x y h = cc
  set_same (z ∷ xs) zero x y h = refl
  set_same (z ∷ xs) (suc k) x y h = set_same xs k x y h

  pub set_other : (xs : List X) (k j : ℕ) (x : X) → (j ≡ k → ⊥) → slice_get (set xs k x) j ≡ slice_get xs j
  set_other [] k j x other = refl
  set_other (z ∷ xs) zero zero x other = absurd (other refl)
  set_other (z ∷ xs) zero (suc j) x other = refl
  set_other (z ∷ xs) (suc k) zero x other = refl
  set_other (z ∷ xs) (suc k) (suc j) x other = set_other xs k j x (λ same. other (ap suc same))

  -- a member of the changed list is the new one, or one of the others
  pub changed :
      (xs : List X) (k j : ℕ) (old new y : X) → slice_get xs k ≡ Some old → slice_get (set xs k new) j ≡ Some y →
      ((j ≡ k) × (y ≡ new)) ⊎ ((j ≡ k → ⊥) × (slice_get xs j ≡ Some y))
  changed xs k j old new y h g =
      ⊎_elim (λ same. inl (same, (let at : slice_get (set xs k new) k ≡ Some new = set_same xs k new old h in cc)))
      (λ other. inr (other, sym (set_other xs k j new other) ∙ g)) (same_or_other j k)

  pub kept_other : (xs : List X) (k j : ℕ) (new y : X) → (j ≡ k → ⊥) → slice_get xs j ≡ Some y → slice_get (set xs k new) j ≡ Some y
  kept_other xs k j new y other g = set_other xs k j new other ∙ g

  pub listed_within : (xss : List (List X)) (i n : ℕ) (x : X) → slice_get (get_or xss i []) n ≡ Some x → i < length xss
  listed_within [] i n x h = let none : None ≡ Some x = h in cc
  listed_within (xs ∷ xss) zero n x h = omega arith
  listed_within (xs ∷ xss) (suc i) n x h = let rest = listed_within xss i n x h in omega (arith, rest)

-- flags
pub flag_set : (flags : List Bool) (t u : ℕ) → get_or (set flags t true) u false ≡ true → (u ≡ t) ⊎ (get_or flags u false ≡ true)
flag_set flags t u h = ⊎_elim (λ same. inl same) (λ other. inr (sym (get_or-set_other flags t u true false other) ∙ h)) (same_or_other u t)

pub flag_kept : (flags : List Bool) (t u : ℕ) → t < length flags → get_or flags u false ≡ true → get_or (set flags t true) u false ≡ true
flag_kept flags t u l h =
    ⊎_elim (λ same. ap (λ i. get_or (set flags t true) i false) same ∙ get_or-set_same flags t true false l)
    (λ other. get_or-set_other flags t u true false other ∙ h) (same_or_other u t)

pub flag_lacks : (flags : List Bool) (t u : ℕ) → t < length flags → get_or (set flags t true) u false ≡ false → (u ≡ t → ⊥) × (get_or flags u false ≡ false)
flag_lacks flags t u l h =
    ⊎_elim
    (λ same. absurd (let one : get_or (set flags t true) u false ≡ true = ap (λ i. get_or (set flags t true) i false) same ∙ get_or-set_same flags t true false l in cc))
    (λ other. (other, sym (get_or-set_other flags t u true false other) ∙ h)) (same_or_other u t)

pub all_true-at : (flags : List Bool) (t : ℕ) → all_true flags ≡ true → t < length flags → get_or flags t false ≡ true
all_true-at [] t h l = absurd (omega arith)
all_true-at (true ∷ flags) zero h l = refl
all_true-at (true ∷ flags) (suc t) h l = all_true-at flags t h (omega arith)
all_true-at (false ∷ flags) t h l = absurd (let two : false ≡ true = h in cc)

pub some_false : (flags : List Bool) → all_true flags ≡ false → (t : ℕ) × (t < length flags) × (get_or flags t false ≡ false)
some_false [] h = absurd (let two : true ≡ false = h in cc)
some_false (true ∷ flags) h = let one = some_false flags h in (suc one.0, omega (arith, one.1), one.2)
some_false (false ∷ flags) h = (zero, omega arith, refl)

pub none_flagged : (n t : ℕ) → get_or (replicate n false) t false ≡ false
none_flagged zero t = refl
none_flagged (suc n) zero = refl
none_flagged (suc n) (suc t) = none_flagged n t

-- workers
pub all_rest : (workers : List Worker) (k : ℕ) (worker : Worker) → slice_get (map (λ w. resting) workers) k ≡ Some worker → worker ≡ resting
all_rest [] k worker h = let none : None ≡ Some worker = h in cc
all_rest (w ∷ workers) zero worker h = cc
all_rest (w ∷ workers) (suc k) worker h = all_rest workers k worker h

pub start_rest : (n k : ℕ) (worker : Worker) → slice_get (replicate n resting) k ≡ Some worker → worker ≡ resting
start_rest zero k worker h = let none : None ≡ Some worker = h in cc
start_rest (suc n) zero worker h = cc
start_rest (suc n) (suc k) worker h = start_rest n k worker h

pub exhausted-set :
    (workers : List Worker) (k : ℕ) (old new : Worker) → slice_get workers k ≡ Some old →
    exhausted_count (set workers k new) + is_exhausted old ≡ exhausted_count workers + is_exhausted new
exhausted-set [] k old new h = let none : None ≡ Some old = h in cc
exhausted-set (w ∷ workers) zero old new h =
    let same : w ≡ old = cc in
    let e : is_exhausted w ≡ is_exhausted old = ap is_exhausted same in
    omega (arith, e)
exhausted-set (w ∷ workers) (suc k) old new h = let rest = exhausted-set workers k old new h in omega (arith, rest)

-- one more value is found
module _ (means : Instance → ℤ → Type 0) where
  pub found-push :
      (loads : List Load) (values : List ℤ) (load : Load) (v : ℤ) → AreFound means loads values → slice_get loads (length values) ≡ Some load → means load.named v →
      AreFound means loads (values ++ v ∷ [])
  found-push [] [] load v f h m = let none : None ≡ Some load = h in absurd (cc)
  found-push [] (x ∷ values) load v f h m = absurd f
  found-push (l ∷ loads) [] load v f h m = let same : l ≡ load = cc in (subst (λ x. means x.named v) (sym same) m, tt)
  found-push (l ∷ loads) (x ∷ values) load v f h m = (f.0, found-push loads values load v f.1 h m)
