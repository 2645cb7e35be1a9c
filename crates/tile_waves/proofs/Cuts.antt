-- Items in order, cut into groups of one key: the keys rise from group to group.
use Rattle.std.proofs.Common.{◌≡◌, ◌⊎◌, inl, inr, ⊎_elim, ℕ, zero, suc, ◌<◌, ◌≤◌, Bool, true, false, if◌then◌else◌, List, [], ◌∷◌, ◌++◌, length, get_or, slice_get, Some, None, ◌+◌, refl, sym, ap, subst, ◌∙◌, arith, length-append}
use Rattle.std.specs.Cmp.Lexicographic.{slice_cmp}
use Rattle.std.specs.Ordering.{int_cmp, is_eq}
use Rattle.std.specs.declared.cmp.Ordering.{Ordering}
use Rattle.std.specs.declared.cmp.Ordering.TheVariants.{Less, Equal, Greater}
use Rattle.az_ast.specs.Points.{Precedes}
use Rattle.az_ast.proofs.TableLemmas.{same_point, equal_points, Precedes-chain}
use Rattle.std.proofs.lemmas.List.{length_push}
use Rattle.std.proofs.lemmas.Option.{slice_get_within}
use Rattle.execution.proofs.Lists.{same_or_other, within_or_past}
use Rattle.tile_waves.specs.Inner.Cuts.{level_key, has_one_key, Cut, goes_on, cut_more, cut_of, with_last, groups_of}
use Rattle.tile_waves.specs.declared.item.Item.{Item}
use Rattle.tile_waves.specs.declared.level.Level.{Level}

-- what stands in a group
abbrev pub Holds : List (List Item) → ℕ → ℕ → Item → Type 0
Holds groups i a x = slice_get (get_or groups i []) a ≡ Some x

-- one more at the end of a list
module _ {X : Type 0} where
  pub snoc_old : (xs : List X) (x y : X) (i : ℕ) → slice_get xs i ≡ Some y → slice_get (xs ++ x ∷ []) i ≡ Some y
  snoc_old [] x y i h = let none : None ≡ Some y = h in absurd (cc)
  snoc_old (z ∷ xs) x y zero h = h
  snoc_old (z ∷ xs) x y (suc i) h = snoc_old xs x y i h

  pub snoc_new : (xs : List X) (x : X) → slice_get (xs ++ x ∷ []) (length xs) ≡ Some x
  snoc_new [] x = refl
  snoc_new (z ∷ xs) x = snoc_new xs x

  pub snoc_cases : (xs : List X) (x y : X) (i : ℕ) → slice_get (xs ++ x ∷ []) i ≡ Some y → slice_get xs i ≡ Some y ⊎ ((i ≡ length xs) × (y ≡ x))
  snoc_cases [] x y zero h = inr (refl, cc)
  snoc_cases [] x y (suc i) h = let none : None ≡ Some y = h in absurd (cc)
  snoc_cases (z ∷ xs) x y zero h = inl h
  snoc_cases (z ∷ xs) x y (suc i) h = ⊎_elim (λ old. inl old) (λ new. inr (ap suc new.0, new.1)) (snoc_cases xs x y i h)

-- one more in the last group, and a new last group
pub last_new : (closed : List (List Item)) (last : List Item) → get_or (closed ++ last ∷ []) (length closed) [] ≡ last
last_new [] last = refl
last_new (g ∷ closed) last = last_new closed last

pub last_other : (closed : List (List Item)) (last more : List Item) (i : ℕ) → (i ≡ length closed → ⊥) → get_or (closed ++ last ∷ []) i [] ≡ get_or (closed ++ more ∷ []) i []
last_other [] last more zero other = absurd (other refl)
last_other [] last more (suc i) other = refl
last_other (g ∷ closed) last more zero other = refl
last_other (g ∷ closed) last more (suc i) other = last_other closed last more i (λ same. other (ap suc same))

-- items in reverse order: what comes first is behind the others
abbrev pub IsBehind : (R : Item → Item → Type 0) → Item → List Item → Type 0
IsBehind R x ys = (k : ℕ) (y : Item) → slice_get ys k ≡ Some y → R y x

abbrev pub IsFalling : (R : Item → Item → Type 0) → List Item → Type 0
IsFalling R [] = Unit {0}
IsFalling R (x ∷ ys) = IsBehind R x ys × IsFalling R ys

abbrev pub KeyUpTo : Level → Item → Item → Type 0
KeyUpTo level y x = (level_key level y ≡ level_key level x) ⊎ Precedes (level_key level y) (level_key level x)

-- the groups of a cut, the last one with them
abbrev view : Cut → List (List Item)
view cut = cut.closed ++ cut.last ∷ []

module _ (level : Level) (R : Item → Item → Type 0) (upward : (y x : Item) → R y x → KeyUpTo level y x) where
  -- what a cut of these items is
  pub record IsCut (ys : List Item) (cut : Cut) : Type 0 where
    pub some : (y : Item) (ks : List Item) → ys ≡ y ∷ ks → 0 < length cut.last
    pub filled : (i : ℕ) → i < length cut.closed → 0 < length (get_or cut.closed i [])
    pub only : (i a : ℕ) (y : Item) → Holds (view cut) i a y → (k : ℕ) × (slice_get ys k ≡ Some y)
    pub every : (k : ℕ) (y : Item) → slice_get ys k ≡ Some y → (i : ℕ) × (a : ℕ) × Holds (view cut) i a y
    pub inner : (i a b : ℕ) (y z : Item) → Holds (view cut) i a y → Holds (view cut) i b z → a < b → R y z
    pub one_key : (i a b : ℕ) (y z : Item) → Holds (view cut) i a y → Holds (view cut) i b z → level_key level y ≡ level_key level z
    pub rising : (i j a b : ℕ) (y z : Item) → Holds (view cut) i a y → Holds (view cut) j b z → i < j → Precedes (level_key level y) (level_key level z)

  key_chain : (y z x : Item) → Precedes (level_key level y) (level_key level z) → KeyUpTo level z x → Precedes (level_key level y) (level_key level x)
  key_chain y z x h g =
      ⊎_elim (λ same. subst (λ key. Precedes (level_key level y) key) same h) (λ more. Precedes-chain (level_key level y) (level_key level z) (level_key level x) h more) g

  is_tied : (r : Ordering) → is_eq r ≡ true → r ≡ Equal
  is_tied Less is = cc
  is_tied Equal is = refl
  is_tied Greater is = cc

  one_key_true : (a b : Item) → has_one_key level a b ≡ true → level_key level a ≡ level_key level b
  one_key_true a b is = same_point (level_key level a) (level_key level b) (is_tied (slice_cmp int_cmp (level_key level a) (level_key level b)) is)

  one_key_false : (a b : Item) → has_one_key level a b ≡ false → level_key level a ≡ level_key level b → ⊥
  one_key_false a b is same = let equal : has_one_key level a b ≡ true = ap is_eq (equal_points (level_key level a) (level_key level b) same) in cc

  -- how positions change: an old one is kept, and one is new
  record Grows (old new : List (List Item)) (x : Item) (i a : ℕ) : Type 0 where
    here : Holds new i a x
    kept : (j b : ℕ) (y : Item) → Holds old j b y → Holds new j b y
    back : (j b : ℕ) (y : Item) → Holds new j b y → Holds old j b y ⊎ ((j ≡ i) × (b ≡ a) × (y ≡ x))

  longer : (closed : List (List Item)) (last : List Item) (x : Item) → Grows (closed ++ last ∷ []) (closed ++ (last ++ x ∷ []) ∷ []) x (length closed) (length last)
  longer closed last x = record {
    here = ap (λ g. slice_get g (length last)) (last_new closed (last ++ x ∷ [])) ∙ snoc_new last x;
    kept = λ j b y h. ⊎_elim (kept_last j b y h) (λ other. ap (λ g. slice_get g b) (last_other closed (last ++ x ∷ []) last j other) ∙ h) (same_or_other j (length closed));
    back = λ j b y h. ⊎_elim (back_last j b y h) (λ other. inl (ap (λ g. slice_get g b) (last_other closed last (last ++ x ∷ []) j other) ∙ h)) (same_or_other j (length closed));
  }
    where
      kept_last : (j b : ℕ) (y : Item) → Holds (closed ++ last ∷ []) j b y → j ≡ length closed → Holds (closed ++ (last ++ x ∷ []) ∷ []) j b y
      kept_last j b y h same =
          let at : get_or (closed ++ last ∷ []) j [] ≡ last = ap (λ n. get_or (closed ++ last ∷ []) n []) same ∙ last_new closed last in
          let to : get_or (closed ++ (last ++ x ∷ []) ∷ []) j [] ≡ last ++ x ∷ [] = ap (λ n. get_or (closed ++ (last ++ x ∷ []) ∷ []) n []) same ∙ last_new closed (last ++ x ∷ []) in
          ap (λ g. slice_get g b) to ∙ snoc_old last x y b (sym (ap (λ g. slice_get g b) at) ∙ h)

      back_last : (j b : ℕ) (y : Item) → Holds (closed ++ (last ++ x ∷ []) ∷ []) j b y → j ≡ length closed → Holds (closed ++ last ∷ []) j b y ⊎ ((j ≡ length closed) × (b ≡ length last) × (y ≡ x))
      back_last j b y h same =
          let at : get_or (closed ++ last ∷ []) j [] ≡ last = ap (λ n. get_or (closed ++ last ∷ []) n []) same ∙ last_new closed last in
          let to : get_or (closed ++ (last ++ x ∷ []) ∷ []) j [] ≡ last ++ x ∷ [] = ap (λ n. get_or (closed ++ (last ++ x ∷ []) ∷ []) n []) same ∙ last_new closed (last ++ x ∷ []) in
          ⊎_elim (λ old. inl (ap (λ g. slice_get g b) at ∙ old)) (λ new. inr (same, new.0, new.1)) (snoc_cases last x y b (sym (ap (λ g. slice_get g b) to) ∙ h))

  another : (groups : List (List Item)) (x : Item) → Grows groups (groups ++ (x ∷ []) ∷ []) x (length groups) 0
  another groups x = record {
    here = ap (λ g. slice_get g 0) (last_new groups (x ∷ []));
    kept = λ j b y h. by j b y h (within_or_past j (length groups));
    back = λ j b y h. ⊎_elim (back_last j b y h) (λ other. inl (back_old j b y h other)) (same_or_other j (length groups));
  }
    where
      inside : (gs : List (List Item)) (g : List Item) (j : ℕ) → j < length gs → get_or (gs ++ g ∷ []) j [] ≡ get_or gs j []
      inside [] g j l = absurd (omega (arith, l))
      inside (h ∷ gs) g zero l = refl
      inside (h ∷ gs) g (suc j) l = inside gs g j (omega (arith, l))

      past : (gs : List (List Item)) (j : ℕ) → length gs ≤ j → get_or gs j [] ≡ []
      past [] j l = refl
      past (g ∷ gs) zero l = absurd (omega (arith, l))
      past (g ∷ gs) (suc j) l = past gs j (omega (arith, l))

      none_past : (gs : List (List Item)) (j b : ℕ) (y : Item) → length gs ≤ j → Holds gs j b y → ⊥
      none_past gs j b y l h = let none : None ≡ Some y = sym (ap (λ g. slice_get g b) (past gs j l)) ∙ h in cc

      by : (j b : ℕ) (y : Item) → Holds groups j b y → (j < length groups) ⊎ (length groups ≤ j) → Holds (groups ++ (x ∷ []) ∷ []) j b y
      by j b y h (inl l) = ap (λ g. slice_get g b) (inside groups (x ∷ []) j l) ∙ h
      by j b y h (inr l) = absurd (none_past groups j b y l h)

      one_there : (b : ℕ) (y : Item) → slice_get (x ∷ []) b ≡ Some y → (b ≡ 0) × (y ≡ x)
      one_there zero y h = (refl, cc)
      one_there (suc b) y h = let none : None ≡ Some y = h in absurd (cc)

      back_last : (j b : ℕ) (y : Item) → Holds (groups ++ (x ∷ []) ∷ []) j b y → j ≡ length groups → Holds groups j b y ⊎ ((j ≡ length groups) × (b ≡ 0) × (y ≡ x))
      back_last j b y h same =
          let to : get_or (groups ++ (x ∷ []) ∷ []) j [] ≡ x ∷ [] = ap (λ n. get_or (groups ++ (x ∷ []) ∷ []) n []) same ∙ last_new groups (x ∷ []) in
          let one = one_there b y (sym (ap (λ g. slice_get g b) to) ∙ h) in
          inr (same, one.0, one.1)

      back_old : (j b : ℕ) (y : Item) → Holds (groups ++ (x ∷ []) ∷ []) j b y → (j ≡ length groups → ⊥) → Holds groups j b y
      back_old j b y h other = ⊎_elim (λ l. sym (ap (λ g. slice_get g b) (inside groups (x ∷ []) j l)) ∙ h) (λ l. absurd (beyond l)) (within_or_past j (length groups))
        where
          beyond : length groups ≤ j → ⊥
          beyond l = none_past (groups ++ (x ∷ []) ∷ []) j b y (let len = length-append groups ((x ∷ []) ∷ []) in not_same len l) h
            where
              not_same : length (groups ++ (x ∷ []) ∷ []) ≡ length groups + 1 → length groups ≤ j → length (groups ++ (x ∷ []) ∷ []) ≤ j
              not_same len l = ⊎_elim (λ less. omega (arith, len, less)) (λ past. absurd (other (omega (arith, l, past)))) (within_or_past (length groups) j)

  -- one more item, behind all others
  module _ (ys : List Item) (old new : Cut) (x : Item) (is : IsCut ys old) (behind : IsBehind R x ys) (i a : ℕ) (grows : Grows (view old) (view new) x i a)
      (some : 0 < length new.last) (filled : (j : ℕ) → j < length new.closed → 0 < length (get_or new.closed j []))
      -- the new position is the last one
      (in_last : (j b : ℕ) (y : Item) → Holds (view old) j b y → (j < i) ⊎ ((j ≡ i) × (b < a)))
      (same_key : (b : ℕ) (y : Item) → Holds (view old) i b y → level_key level y ≡ level_key level x)
      (less_key : (j b : ℕ) (y : Item) → Holds (view old) j b y → j < i → Precedes (level_key level y) (level_key level x)) where
    abbrev Old : ℕ → ℕ → Item → Type 0
    Old = Holds (view old)

    abbrev New : ℕ → ℕ → Item → Type 0
    New = Holds (view new)

    inner_now : (j b c : ℕ) (y z : Item) → New j b y → New j c z → b < c → R y z
    inner_now j b c y z h g l = ⊎_elim
        (λ h_old. ⊎_elim (λ g_old. is.inner j b c y z h_old g_old l) (λ g_new. subst (R y) (sym g_new.2) (let one = is.only j b y h_old in behind one.0 y one.1)) (grows.back j c z g))
        (λ h_new. ⊎_elim
        (λ g_old. absurd (⊎_elim (λ less. omega (arith, less, h_new.0)) (λ same. omega (arith, same.1, h_new.1, l)) (in_last j c z g_old)))
        (λ g_new. absurd (omega (arith, h_new.1, g_new.1, l))) (grows.back j c z g))
        (grows.back j b y h)

    key_now : (j b c : ℕ) (y z : Item) → New j b y → New j c z → level_key level y ≡ level_key level z
    key_now j b c y z h g = ⊎_elim
        (λ h_old. ⊎_elim (λ g_old. is.one_key j b c y z h_old g_old) (λ g_new. same_key b y (subst (λ n. Old n b y) g_new.0 h_old) ∙ ap (level_key level) (sym g_new.2)) (grows.back j c z g))
        (λ h_new. ⊎_elim
        (λ g_old. ap (level_key level) h_new.2 ∙ sym (same_key c z (subst (λ n. Old n c z) h_new.0 g_old)))
        (λ g_new. ap (level_key level) (h_new.2 ∙ sym g_new.2)) (grows.back j c z g))
        (grows.back j b y h)

    rising_now : (j k b c : ℕ) (y z : Item) → New j b y → New k c z → j < k → Precedes (level_key level y) (level_key level z)
    rising_now j k b c y z h g l = ⊎_elim
        (λ h_old. ⊎_elim (λ g_old. is.rising j k b c y z h_old g_old l)
        (λ g_new. subst (λ w. Precedes (level_key level y) (level_key level w)) (sym g_new.2) (less_key j b y h_old (omega (arith, g_new.0, l)))) (grows.back k c z g))
        (λ h_new. ⊎_elim
        (λ g_old. absurd (⊎_elim (λ less. omega (arith, less, h_new.0, l)) (λ same. omega (arith, same.0, h_new.0, l)) (in_last k c z g_old)))
        (λ g_new. absurd (omega (arith, h_new.0, g_new.0, l))) (grows.back k c z g))
        (grows.back j b y h)

    grown : IsCut (x ∷ ys) new
    grown = record {
      some = λ y ks e. some;
      filled = filled;
      only = λ j b y h. ⊎_elim (λ h_old. let one = is.only j b y h_old in (suc one.0, one.1)) (λ h_new. (0, ap Some (sym h_new.2))) (grows.back j b y h);
      every = every_now;
      inner = inner_now;
      one_key = key_now;
      rising = rising_now;
    }
      where
        every_now : (k : ℕ) (y : Item) → slice_get (x ∷ ys) k ≡ Some y → (j : ℕ) × (b : ℕ) × New j b y
        every_now zero y h = let same : x ≡ y = cc in (i, a, subst (λ w. New i a w) same grows.here)
        every_now (suc k) y h = let one = is.every k y h in (one.0, one.1, grows.kept one.0 one.1 y one.2)

  -- where something stands
  place_in : (closed : List (List Item)) (last : List Item) (j b : ℕ) (y : Item) → Holds (closed ++ last ∷ []) j b y → (j < length closed) ⊎ ((j ≡ length closed) × (b < length last))
  place_in [] last zero b y h = inr (refl, slice_get_within last b y h)
  place_in [] last (suc j) b y h = let none : None ≡ Some y = h in absurd (cc)
  place_in (g ∷ closed) last zero b y h = inl (omega arith)
  place_in (g ∷ closed) last (suc j) b y h = ⊎_elim (λ l. inl (omega (arith, l))) (λ r. inr (ap suc r.0, r.1)) (place_in closed last j b y h)

  first_there : (last : List Item) → 0 < length last → (first : Item) × (slice_get last 0 ≡ Some first)
  first_there [] l = absurd (omega (arith, l))
  first_there (first ∷ rest) l = (first, refl)

  goes_first : (last : List Item) (x first : Item) → slice_get last 0 ≡ Some first → goes_on level last x ≡ has_one_key level first x
  goes_first [] x first h = let none : None ≡ Some first = h in absurd (cc)
  goes_first (y ∷ rest) x first h = let same : y ≡ first = cc in ap (λ z. has_one_key level z x) same

  push_some : (last : List Item) (x : Item) → 0 < length (last ++ x ∷ [])
  push_some last x = let len = length_push last x in omega (arith, len)

  within_push : (closed : List (List Item)) (last : List Item) (j : ℕ) → j < length closed → get_or (closed ++ last ∷ []) j [] ≡ get_or closed j []
  within_push [] last j l = absurd (omega (arith, l))
  within_push (g ∷ closed) last zero l = refl
  within_push (g ∷ closed) last (suc j) l = within_push closed last j (omega (arith, l))

  -- the first item of the last group
  record First (ys : List Item) (cut : Cut) : Type 0 where
    first : Item
    at : slice_get cut.last 0 ≡ Some first
    holds : Holds (view cut) (length cut.closed) 0 first
    place : ℕ
    there : slice_get ys place ≡ Some first

  module _ (ys : List Item) (cut : Cut) (is : IsCut ys cut) where
    head : 0 < length cut.last → First ys cut
    head some =
        let one = first_there cut.last some in
        let held : Holds (view cut) (length cut.closed) 0 one.0 = ap (λ g. slice_get g 0) (last_new cut.closed cut.last) ∙ one.1 in
        let found = is.only (length cut.closed) 0 one.0 held in
        record { first = one.0; at = one.1; holds = held; place = found.0; there = found.1 }

    head_of : (k : ℕ) (y : Item) → slice_get ys k ≡ Some y → First ys cut
    head_of k y h = head (by ys refl k h)
      where
        by : (zs : List Item) → zs ≡ ys → (k : ℕ) → slice_get zs k ≡ Some y → 0 < length cut.last
        by [] e k g = let none : None ≡ Some y = g in absurd (cc)
        by (z ∷ zs) e k g = is.some z zs (sym e)

    module _ (x : Item) (behind : IsBehind R x ys) where
      upto : (f : First ys cut) → KeyUpTo level f.first x
      upto f = upward f.first x (behind f.place f.first f.there)

      more_true : goes_on level cut.last x ≡ true → IsCut (x ∷ ys) (record { closed = cut.closed; last = cut.last ++ x ∷ [] })
      more_true on = grown ys cut (record { closed = cut.closed; last = cut.last ++ x ∷ [] }) x is behind (length cut.closed) (length cut.last) (longer cut.closed cut.last x)
          (push_some cut.last x) is.filled
          (λ j b y h. place_in cut.closed cut.last j b y h)
          (λ b y h. let found = is.only (length cut.closed) b y h in let f = head_of found.0 y found.1 in
          is.one_key (length cut.closed) b 0 y f.first h f.holds ∙ one_key_true f.first x (sym (goes_first cut.last x f.first f.at) ∙ on))
          (λ j b y h l. let found = is.only j b y h in let f = head_of found.0 y found.1 in
          key_chain y f.first x (is.rising j (length cut.closed) b 0 y f.first h f.holds l) (upto f))

      more_false : goes_on level cut.last x ≡ false → IsCut (x ∷ ys) (record { closed = cut.closed ++ cut.last ∷ []; last = x ∷ [] })
      more_false off = grown ys cut (record { closed = cut.closed ++ cut.last ∷ []; last = x ∷ [] }) x is behind (length (view cut)) 0 (another (view cut) x)
          (omega arith) filled_now
          (λ j b y h. inl (inside j b y h))
          (λ b y h. absurd (let l = inside (length (view cut)) b y h in omega (arith, l)))
          (λ j b y h l. less j b y h)
        where
          long : length (view cut) ≡ length cut.closed + 1
          long = length-append cut.closed (cut.last ∷ [])

          inside : (j b : ℕ) (y : Item) → Holds (view cut) j b y → j < length (view cut)
          inside j b y h = let len = long in ⊎_elim (λ l. omega (arith, l, len)) (λ r. omega (arith, r.0, len)) (place_in cut.closed cut.last j b y h)

          some_last : 0 < length cut.last
          some_last = by cut.last off
            where
              by : (last : List Item) → goes_on level last x ≡ false → 0 < length last
              by [] e = let two : true ≡ false = e in absurd (cc)
              by (y ∷ rest) e = omega arith

          filled_now : (j : ℕ) → j < length (view cut) → 0 < length (get_or (view cut) j [])
          filled_now j l = ⊎_elim
              (λ less. subst (λ g. 0 < length g) (sym (within_push cut.closed cut.last j less)) (is.filled j less))
              (λ past. let len = long in subst (λ n. 0 < length (get_or (view cut) n [])) (sym (same_of j l past len)) (subst (λ g. 0 < length g) (sym (last_new cut.closed cut.last)) some_last))
              (within_or_past j (length cut.closed))
            where
              same_of : (j : ℕ) → j < length (view cut) → length cut.closed ≤ j → length (view cut) ≡ length cut.closed + 1 → j ≡ length cut.closed
              same_of j l past len = omega (arith, l, past, len)

          head_less : (f : First ys cut) → Precedes (level_key level f.first) (level_key level x)
          head_less f = ⊎_elim (λ same. absurd (one_key_false f.first x (sym (goes_first cut.last x f.first f.at) ∙ off) same)) (λ less. less) (upto f)

          less : (j b : ℕ) (y : Item) → Holds (view cut) j b y → Precedes (level_key level y) (level_key level x)
          less j b y h =
              let f = head some_last in
              ⊎_elim (λ l. Precedes-chain (level_key level y) (level_key level f.first) (level_key level x) (is.rising j (length cut.closed) b 0 y f.first h f.holds l) (head_less f))
              (λ r. subst (λ key. Precedes key (level_key level x)) (sym (is.one_key (length cut.closed) b 0 y f.first (subst (λ n. Holds (view cut) n b y) r.0 h) f.holds)) (head_less f))
              (place_in cut.closed cut.last j b y h)

      more : IsCut (x ∷ ys) (cut_more level cut x)
      more = by (goes_on level cut.last x) refl
        where
          by : (b : Bool) → goes_on level cut.last x ≡ b →
              IsCut (x ∷ ys) (if b then record { closed = cut.closed; last = cut.last ++ x ∷ [] } else record { closed = cut.closed ++ cut.last ∷ []; last = x ∷ [] })
          by true is_on = more_true is_on
          by false is_off = more_false is_off

  none_held : (i a : ℕ) (y : Item) → Holds ([] ∷ []) i a y → ⊥
  none_held zero a y h = let none : None ≡ Some y = h in cc
  none_held (suc i) a y h = let none : None ≡ Some y = h in cc

  cut_is : (ys : List Item) → IsFalling R ys → IsCut ys (cut_of level ys)
  cut_is [] falling = record {
    some = λ y ks e. absurd (cc);
    filled = λ i l. absurd (omega (arith, l));
    only = λ i a y h. absurd (none_held i a y h);
    every = λ k y h. absurd (let none : None ≡ Some y = h in cc);
    inner = λ i a b y z h g l. absurd (none_held i a y h);
    one_key = λ i a b y z h g. absurd (none_held i a y h);
    rising = λ i j a b y z h g l. absurd (none_held i a y h);
  }
  cut_is (x ∷ ys) falling = more ys (cut_of level ys) (cut_is ys falling.1) x falling.0

  -- the groups of items
  pub record AreGroups (ys : List Item) (groups : List (List Item)) : Type 0 where
    pub filled : (i : ℕ) → i < length groups → 0 < length (get_or groups i [])
    pub only : (i a : ℕ) (y : Item) → Holds groups i a y → (k : ℕ) × (slice_get ys k ≡ Some y)
    pub every : (k : ℕ) (y : Item) → slice_get ys k ≡ Some y → (i : ℕ) × (a : ℕ) × Holds groups i a y
    pub inner : (i a b : ℕ) (y z : Item) → Holds groups i a y → Holds groups i b z → a < b → R y z
    pub one_key : (i a b : ℕ) (y z : Item) → Holds groups i a y → Holds groups i b z → level_key level y ≡ level_key level z
    pub rising : (i j a b : ℕ) (y z : Item) → Holds groups i a y → Holds groups j b z → i < j → Precedes (level_key level y) (level_key level z)

  view_groups : (ys : List Item) (cut : Cut) → IsCut ys cut → 0 < length cut.last → AreGroups ys (with_last cut.closed cut.last)
  view_groups ys cut is some = subst (AreGroups ys) (view_is cut.closed cut.last some) (record {
    filled = filled_view;
    only = is.only;
    every = is.every;
    inner = is.inner;
    one_key = is.one_key;
    rising = is.rising;
  })
    where
      view_is : (closed : List (List Item)) (last : List Item) → 0 < length last → closed ++ last ∷ [] ≡ with_last closed last
      view_is closed [] l = absurd (omega (arith, l))
      view_is closed (first ∷ rest) l = refl

      filled_view : (j : ℕ) → j < length (view cut) → 0 < length (get_or (view cut) j [])
      filled_view j l = ⊎_elim
          (λ less. subst (λ g. 0 < length g) (sym (within_push cut.closed cut.last j less)) (is.filled j less))
          (λ past. let len = length-append cut.closed (cut.last ∷ []) in subst (λ n. 0 < length (get_or (view cut) n [])) (sym (same_of len past)) (subst (λ g. 0 < length g) (sym (last_new cut.closed cut.last)) some))
          (within_or_past j (length cut.closed))
        where
          same_of : length (view cut) ≡ length cut.closed + 1 → length cut.closed ≤ j → j ≡ length cut.closed
          same_of len past = omega (arith, l, past, len)

  pub groups_are : (ys : List Item) → IsFalling R ys → AreGroups ys (groups_of level ys)
  groups_are [] falling = record {
    filled = λ i l. absurd (omega (arith, l));
    only = λ i a y h. absurd (let none : None ≡ Some y = h in cc);
    every = λ k y h. absurd (let none : None ≡ Some y = h in cc);
    inner = λ i a b y z h g l. absurd (let none : None ≡ Some y = h in cc);
    one_key = λ i a b y z h g. absurd (let none : None ≡ Some y = h in cc);
    rising = λ i j a b y z h g l. absurd (let none : None ≡ Some y = h in cc);
  }
  groups_are (x ∷ ys) falling = let is = cut_is (x ∷ ys) falling in view_groups (x ∷ ys) (cut_of level (x ∷ ys)) is (is.some x ys refl)
