-- Elements of lists that are found, kept, passed by a test and counted.
use Rattle.std.proofs.Common.{◌≡◌, ◌⊎◌, inl, inr, ⊎_elim, ℕ, zero, suc, ◌<◌, ◌≤◌, List, [], ◌∷◌, map, get_or, Bool, true, false, cond, Option, Some, None, refl, sym, ap, subst, ◌∙◌, arith}
use Rattle.std.specs.Prelude.{Contains, unwrap_or}
use Rattle.std.specs.List.{AllByRecursion, find, filter, filter_map, cons_option, range_with_len}
use Rattle.std.proofs.lemmas.List.FromFn.{length-range_with_len, get_or-range_with_len}
use Rattle.loop_scan.proofs.Lists.{first_or_rest, Contains-first, Contains-rest, none_contained}

module _ {X : Type 0} (test : X → Bool) where
  -- what is found is there and passes
  pub found-in : (xs : List X) (x : X) → find test xs ≡ Some x → Contains xs x × (test x ≡ true)
  found-in [] x e = cc
  found-in (y ∷ ys) x e = by (test y) refl e (found-in ys x)
    where
      by : (b : Bool) → test y ≡ b → cond b (Some y) (find test ys) ≡ Some x → (find test ys ≡ Some x → Contains ys x × (test x ≡ true)) → Contains (y ∷ ys) x × (test x ≡ true)
      by true passes h later =
          let same : y ≡ x = ap (λ o. unwrap_or o x) h in
          subst (λ q. Contains (y ∷ ys) q × (test q ≡ true)) same (Contains-first y ys, passes)
      by false fails h later = let rest = later h in (Contains-rest y ys x rest.0, rest.1)

  -- what passes is kept
  pub passed-in : (xs : List X) (x : X) → Contains xs x → test x ≡ true → Contains (filter test xs) x
  passed-in [] x c passes = absurd (none_contained x c)
  passed-in (y ∷ ys) x c passes = by (test y) refl (first_or_rest y ys x c) (λ later. passed-in ys x later passes)
    where
      by : (b : Bool) → test y ≡ b → (x ≡ y) ⊎ Contains ys x → (Contains ys x → Contains (filter test ys) x) → Contains (cond b (y ∷ filter test ys) (filter test ys)) x
      by true told (inl same) rest = subst (λ q. Contains (y ∷ filter test ys) q) (sym same) (Contains-first y (filter test ys))
      by true told (inr later) rest = Contains-rest y (filter test ys) x (rest later)
      by false told (inl same) rest = absurd (let wrong : true ≡ false = sym passes ∙ (ap test same ∙ told) in cc)
      by false told (inr later) rest = rest later

module _ {X Y : Type 0} (h : X → Option Y) where
  pub mapped-in : (xs : List X) (x : X) (y : Y) → Contains xs x → h x ≡ Some y → Contains (filter_map h xs) y
  mapped-in [] x y c e = absurd (none_contained x c)
  mapped-in (w ∷ ws) x y c e = ⊎_elim
      (λ same. subst (λ o. Contains (cons_option o (filter_map h ws)) y) (sym (ap h (sym same) ∙ e)) (Contains-first y (filter_map h ws)))
      (λ later. further (h w) (mapped-in ws x y later e)) (first_or_rest w ws x c)
    where
      further : (o : Option Y) → Contains (filter_map h ws) y → Contains (cons_option o (filter_map h ws)) y
      further None d = d
      further (Some z) d = Contains-rest z (filter_map h ws) y d

-- with a default that is mapped too
pub mapped-at : {X Y : Type 0} (h : X → Y) (d : X) (xs : List X) (i : ℕ) → get_or (map h xs) i (h d) ≡ h (get_or xs i d)
mapped-at h d [] i = refl
mapped-at h d (x ∷ xs) zero = refl
mapped-at h d (x ∷ xs) (suc i) = mapped-at h d xs i

-- the numbers below another
pub below-in : (n i : ℕ) → i < n → Contains (range_with_len 0 n) i
below-in n i less = (i, omega (arith, length-range_with_len 0 n, less), get_or-range_with_len 0 n i i less ∙ omega arith)

-- how many pass
abbrev pub count_of : {X : Type 0} → (X → Bool) → List X → ℕ
count_of test [] = 0
count_of test (x ∷ xs) = cond (test x) (suc (count_of test xs)) (count_of test xs)

module _ {X : Type 0} (Is : X → Type 0) (some more : X → Bool) (into : (x : X) → Is x → some x ≡ true → more x ≡ true) where
  count-at_most : (xs : List X) → AllByRecursion Is xs → count_of some xs ≤ count_of more xs
  count-at_most [] all = omega arith
  count-at_most (x ∷ xs) all = by (some x) refl (more x) refl (count-at_most xs all.1)
    where
      by : (b : Bool) → some x ≡ b → (c : Bool) → more x ≡ c → count_of some xs ≤ count_of more xs → cond b (suc (count_of some xs)) (count_of some xs) ≤ cond c (suc (count_of more xs)) (count_of more xs)
      by true s true m le = omega (arith, le)
      by true s false m le = absurd (let wrong : true ≡ false = sym (into x all.0 s) ∙ m in cc)
      by false s true m le = omega (arith, le)
      by false s false m le = le

  -- fewer, where one element passes the other test alone
  pub count-less : (xs : List X) (x : X) → AllByRecursion Is xs → Contains xs x → some x ≡ false → more x ≡ true → count_of some xs < count_of more xs
  count-less [] x all c s m = absurd (none_contained x c)
  count-less (y ∷ ys) x all c s m = by (some y) refl (more y) refl (first_or_rest y ys x c) (λ later. count-less ys x all.1 later s m)
    where
      by : (b : Bool) → some y ≡ b → (d : Bool) → more y ≡ d → (x ≡ y) ⊎ Contains ys x → (Contains ys x → count_of some ys < count_of more ys) → cond b (suc (count_of some ys)) (count_of some ys) < cond d (suc (count_of more ys)) (count_of more ys)
      by true t d u (inl same) rest = absurd (let wrong : false ≡ true = sym s ∙ (ap some same ∙ t) in cc)
      by false t true u (inl same) rest = let le = count-at_most ys all.1 in omega (arith, le)
      by false t false u (inl same) rest = absurd (let wrong : true ≡ false = sym m ∙ (ap more same ∙ u) in cc)
      by true t true u (inr later) rest = let less = rest later in omega (arith, less)
      by true t false u (inr later) rest = absurd (let wrong : true ≡ false = sym (into y all.0 t) ∙ u in cc)
      by false t true u (inr later) rest = let less = rest later in omega (arith, less)
      by false t false u (inr later) rest = rest later
