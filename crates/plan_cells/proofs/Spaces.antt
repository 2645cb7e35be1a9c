-- Variables of one space have one first variable, one box and one base.
use Rattle.std.proofs.Common.{◌≡◌, ◌⊎◌, inl, inr, ⊎_elim, ℕ, zero, suc, ◌+◌, ◌<◌, ◌≤◌, List, [], filter, Bool, true, false, cond, Option, Some, None, refl, sym, ap, subst, ◌∙◌, arith}
use Rattle.std.specs.Prelude.{ℤ, ◌==◌, ◌&&◌}
use Rattle.std.specs.FinMap.{get}
use Rattle.std.specs.Option.{option_map_or}
use Rattle.std.specs.Str.{bytes_eq}
use Rattle.std.proofs.lemmas.Bool.{eq-eqb}
use Rattle.std.proofs.lemmas.Slice.Eq.{bytes_eq-Decides}
use Rattle.execution.proofs.Lists.{within_or_past}
use Rattle.execution.specs.declared.instance.Instance.{Instance}
use Rattle.plan_cells.specs.Numbering.{first_from, first_of, opens, sides_over, sides_of, taken, volume}
use Rattle.target_map.specs.Settings.{TargetMapping, IsMapping}
use Rattle.target_map.specs.Storage.{shares_space}
use Rattle.target_map.specs.Times.{storage_of}
use Rattle.target_map.specs.declared.storage.Storage.{Storage}

-- the first number that passes
pub record IsFirst (test : ℕ → Bool) (a n r : ℕ) : Type 0 where
  pub low : a ≤ r
  pub high : r ≤ a + n
  pub passes : (r ≡ a + n) ⊎ (test r ≡ true)
  pub none : (w : ℕ) → a ≤ w → w < r → test w ≡ false

pub is-first : (test : ℕ → Bool) (a n : ℕ) → IsFirst test a n (first_from test a n)
is-first test a zero = record { low = omega arith; high = omega arith; passes = inl (omega arith); none = λ w l h. absurd (omega (arith, l, h)) }
is-first test a (suc n) = by (test a) refl (is-first test (suc a) n)
  where
    by : (b : Bool) → test a ≡ b → IsFirst test (suc a) n (first_from test (suc a) n) → IsFirst test a (suc n) (cond b a (first_from test (suc a) n))
    by true e later = record { low = omega arith; high = omega arith; passes = inr e; none = λ w l h. absurd (omega (arith, l, h)) }
    by false e later = record {
      low = omega (arith, later.low);
      high = omega (arith, later.high);
      passes = ⊎_elim (λ last. inl (omega (arith, last))) (λ told. inr told) later.passes;
      none = λ w l h. ⊎_elim (λ past. later.none w past h) (λ here. let same : a ≡ w = omega (arith, l, here) in subst (λ q. test q ≡ false) same e) (within_or_past a w);
    }

-- two firsts of one test
one-first : (test : ℕ → Bool) (x y r s : ℕ) → test x ≡ true → test y ≡ true → IsFirst test 0 x r → IsFirst test 0 y s → r ≡ s
one-first test x y r s at_x at_y f g = ⊎_elim
    (λ less. absurd (let out = g.none r (omega arith) less in let wrong : true ≡ false = sym (passing x r at_x f) ∙ out in cc))
    (λ past. ⊎_elim
    (λ less. absurd (let out = f.none s (omega arith) less in let wrong : true ≡ false = sym (passing y s at_y g) ∙ out in cc))
    (λ other. omega (arith, past, other))
    (within_or_past s r))
    (within_or_past r s)
  where
    passing : (n q : ℕ) → test n ≡ true → IsFirst test 0 n q → test q ≡ true
    passing n q at h = ⊎_elim (λ last. let same : n ≡ q = omega (arith, last) in subst (λ k. test k ≡ true) same at) (λ told. told) h.passes

module _ (m : TargetMapping) where
  pub record AreTogether (x y : ℕ) : Type 0 where
    pub first : Storage
    pub second : Storage
    pub found : get m.storages x ≡ Some first
    pub other : get m.storages y ≡ Some second
    pub space : first.space ≡ second.space

  pub together : (x y : ℕ) → shares_space m x y ≡ true → AreTogether x y
  together x y h = by (get m.storages x) refl (get m.storages y) refl h
    where
      by : (o : Option Storage) → get m.storages x ≡ o → (q : Option Storage) → get m.storages y ≡ q →
          option_map_or (λ (first : Storage). option_map_or (λ (second : Storage). bytes_eq first.space second.space) q false) o false ≡ true → AreTogether x y
      by None e q f h = absurd (let wrong : false ≡ true = h in cc)
      by (Some first) e None f h = absurd (let wrong : false ≡ true = h in cc)
      by (Some first) e (Some second) f h = record { first = first; second = second; found = e; other = f; space = (bytes_eq-Decides first.space second.space).0 h }

  abbrev row : Option Storage → ℕ → Bool
  row o w = option_map_or (λ (first : Storage). option_map_or (λ (second : Storage). bytes_eq first.space second.space) (get m.storages w) false) o false

  -- the same variables share their space
  pub same-row : (x y : ℕ) → AreTogether x y → (w : ℕ) → shares_space m x w ≡ shares_space m y w
  same-row x y t w =
      ap (λ o. row o w) t.found
      ∙ (ap (λ space. option_map_or (λ (second : Storage). bytes_eq space second.space) (get m.storages w) false) t.space ∙ sym (ap (λ o. row o w) t.other))

  pub own-space : (x : ℕ) (storage : Storage) → get m.storages x ≡ Some storage → shares_space m x x ≡ true
  own-space x storage e =
      ap (λ o. row o x) e ∙ (ap (λ o. option_map_or (λ (second : Storage). bytes_eq storage.space second.space) o false) e ∙ (bytes_eq-Decides storage.space storage.space).1 refl)

  pub shares-back : (x y : ℕ) → AreTogether x y → shares_space m y x ≡ true
  shares-back x y t = sym (same-row x y t x) ∙ own-space x t.first t.found

  -- what two variables of one space have in common
  module _ (x y : ℕ) (t : AreTogether x y) where
    pub same-first : first_of m x ≡ first_of m y
    same-first =
        one-first (shares_space m x) x y (first_of m x) (first_of m y) (own-space x t.first t.found) (same-row x y t y ∙ own-space y t.second t.other) (is-first (shares_space m x) 0 x)
        (subst (λ test. IsFirst test 0 y (first_of m y)) (λ i w. sym (same-row x y t w) i) (is-first (shares_space m y) 0 y))

    pub same-factors : IsMapping m → (storage_of m x).factors ≡ (storage_of m y).factors
    same-factors keeps =
        ap (λ o. (option_map_or (λ (s : Storage). s) o (record { space = []; map = record { width = 0; rows = [] }; factors = [] })).factors) t.found
        ∙ (keeps.spaces x t.first t.found y t.second t.other t.space
        ∙ sym (ap (λ o. (option_map_or (λ (s : Storage). s) o (record { space = []; map = record { width = 0; rows = [] }; factors = [] })).factors) t.other))

    pub same-sides : IsMapping m → (params : List ℤ) (us : List Instance) → sides_of m params us x ≡ sides_of m params us y
    same-sides keeps params us = λ i. sides_over m params (filter (λ (u : Instance). same-row x y t u.variable i) us) 0 (same-factors keeps i)

  -- the first variable of a space
  module _ (x : ℕ) (storage : Storage) (found : get m.storages x ≡ Some storage) where
    pub first-shares : shares_space m x (first_of m x) ≡ true
    first-shares = let own = own-space x storage found in ⊎_elim (λ last. let same : x ≡ first_of m x = omega (arith, last) in subst (λ q. shares_space m x q ≡ true) same own) (λ told. told) (is-first (shares_space m x) 0 x).passes

    pub with-first : AreTogether x (first_of m x)
    with-first = together x (first_of m x) first-shares

    pub first-opens : opens m (first_of m x) ≡ true
    first-opens =
        let t = with-first in
        let own : shares_space m (first_of m x) (first_of m x) ≡ true = own-space (first_of m x) t.second t.other in
        let same : first_of m (first_of m x) ≡ first_of m x = sym (same-first x (first_of m x) t) in
        ap (λ b. b && (first_of m (first_of m x) == first_of m x)) own ∙ eq-eqb (first_of m (first_of m x)) (first_of m x) same

    pub first-below : first_of m x ≤ x
    first-below = omega (arith, (is-first (shares_space m x) 0 x).high)

  -- the bases rise
  module _ (params : List ℤ) (us : List Instance) where
    pub taken-opened : (x : ℕ) → opens m x ≡ true → taken m params us (suc x) ≡ taken m params us x + volume (sides_of m params us x)
    taken-opened x h = ap (λ b. taken m params us x + cond b (volume (sides_of m params us x)) 0) h

    step-rises : (x : ℕ) → taken m params us x ≤ taken m params us (suc x)
    step-rises x = omega arith

    pub taken-rises : (x y : ℕ) → x ≤ y → taken m params us x ≤ taken m params us y
    taken-rises x zero h = let same : x ≡ 0 = omega (arith, h) in subst (λ n. taken m params us x ≤ taken m params us n) same (omega arith)
    taken-rises x (suc y) h = ⊎_elim
        (λ last. let same : x ≡ suc y = omega (arith, h, last) in subst (λ n. taken m params us x ≤ taken m params us n) same (omega arith))
        (λ low. let rest = taken-rises x y low in let more = step-rises y in omega (arith, rest, more)) (within_or_past y x)
