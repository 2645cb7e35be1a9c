-- Numbers that close up behind one that goes: the others stay apart, and each finds what it found before.
use Rattle.std.proofs.Common.{◌≡◌, ℕ, zero, suc, ◌-◌, ◌<◌, ◌≤◌, List, [], ◌∷◌, ◌++◌, take, drop, Bool, true, false, cond, Some, None, refl, sym, ap, subst, ◌∙◌, arith}
use Rattle.std.specs.Prelude.{slice_get, option_map, find, filter_map, unwrap_or, nat_lt, ◌==◌}
use Rattle.std.specs.List.{AllByRecursion, cons_option}
use Rattle.std.proofs.lemmas.Bool.{ltb-true, ltb-false, lt-ltb, le-ltb, eqb-true, eqb-false, eq-eqb, ne_eqb, cond-true, cond-false}
use Rattle.az_ast.specs.Placed.{AreInOrder, rank}
use Rattle.az_ast.specs.declared.program.Variable.{Variable}
use Rattle.expr_maps.specs.Replaced.{replaced}
use Rattle.rewriting.specs.Definitions.{Definition, defined_as}
use Rattle.inline_eqs.specs.Removal.{closed_up, renumbered, definition_without}

-- before the one that goes, and behind it
pub closed-before : (gone x : ℕ) → x ≤ gone → closed_up gone x ≡ x
closed-before gone x h = cond-false (nat_lt gone x) (x - 1) x (le-ltb gone x h)

pub closed-behind : (gone x : ℕ) → gone < x → closed_up gone x ≡ x - 1
closed-behind gone x h = cond-true (nat_lt gone x) (x - 1) x (lt-ltb gone x h)

-- one of the two, for another number
pub data Side (gone x : ℕ) : Type 0 where
  before : x < gone → closed_up gone x ≡ x → Side gone x
  behind : gone < x → closed_up gone x ≡ x - 1 → Side gone x

pub side : (gone x : ℕ) → (x == gone) ≡ false → Side gone x
side gone x other = by (nat_lt gone x) refl
  where
    by : (b : Bool) → nat_lt gone x ≡ b → Side gone x
    by true h = let l = ltb-true gone x h in behind l (closed-behind gone x l)
    by false h =
        let l = ltb-false gone x h in
        let apart : x ≡ gone → ⊥ = eqb-false x gone other in
        before (lower l apart) (closed-before gone x l)
      where
        lower : x ≤ gone → (x ≡ gone → ⊥) → x < gone
        lower l apart = omega (arith, l, apart)

-- numbers of others stay apart
pub closed-same : (gone a b : ℕ) → (a == gone) ≡ false → (b == gone) ≡ false → (closed_up gone a == closed_up gone b) ≡ (a == b)
closed-same gone a b other other' = by (side gone a other) (side gone b other')
  where
    told : (m n : ℕ) → closed_up gone a ≡ m → closed_up gone b ≡ n → (m == n) ≡ (a == b) → (closed_up gone a == closed_up gone b) ≡ (a == b)
    told m n e f h = ap (λ i. i == closed_up gone b) e ∙ (ap (λ i. m == i) f ∙ h)

    by : Side gone a → Side gone b → (closed_up gone a == closed_up gone b) ≡ (a == b)
    by (before l e) (before m f) = told a b e f refl
    by (before l e) (behind m f) = told a (b - 1) e f (ne_eqb a (b - 1) (λ s. omega (arith, s, l, m)) ∙ sym (ne_eqb a b (λ s. omega (arith, s, l, m))))
    by (behind l e) (before m f) = told (a - 1) b e f (ne_eqb (a - 1) b (λ s. omega (arith, s, l, m)) ∙ sym (ne_eqb a b (λ s. omega (arith, s, l, m))))
    by (behind l e) (behind m f) = told (a - 1) (b - 1) e f (shifted (a == b) refl l m)
      where
        shifted : (c : Bool) → (a == b) ≡ c → gone < a → gone < b → ((a - 1) == (b - 1)) ≡ (a == b)
        shifted true h l m = eq-eqb (a - 1) (b - 1) (ap (λ i. i - 1) (eqb-true a b h)) ∙ sym h
        shifted false h l m = let apart = eqb-false a b h in ne_eqb (a - 1) (b - 1) (λ s. apart (back s l m)) ∙ sym h
          where
            back : a - 1 ≡ b - 1 → gone < a → gone < b → a ≡ b
            back s l m = omega (arith, s, l, m)

-- the items of a list without one
module _ {A : Type 0} where
  pub before-same : (xs : List A) (gone x : ℕ) → x < gone → slice_get (take gone xs ++ drop (suc gone) xs) x ≡ slice_get xs x
  before-same xs zero x h = absurd (omega (arith, h))
  before-same [] (suc gone) x h = refl
  before-same (y ∷ xs) (suc gone) zero h = refl
  before-same (y ∷ xs) (suc gone) (suc x) h = before-same xs gone x (omega (arith, h))

  pub behind-same : (xs : List A) (gone x : ℕ) → gone ≤ x → slice_get (take gone xs ++ drop (suc gone) xs) x ≡ slice_get xs (suc x)
  behind-same [] zero x h = refl
  behind-same [] (suc gone) x h = refl
  behind-same (y ∷ xs) zero x h = refl
  behind-same (y ∷ xs) (suc gone) zero h = absurd (omega (arith, h))
  behind-same (y ∷ xs) (suc gone) (suc x) h = behind-same xs gone x (omega (arith, h))

  pub item-same : (xs : List A) (gone x : ℕ) → (x == gone) ≡ false → slice_get (take gone xs ++ drop (suc gone) xs) (closed_up gone x) ≡ slice_get xs x
  item-same xs gone x other = by (side gone x other)
    where
      by : Side gone x → slice_get (take gone xs ++ drop (suc gone) xs) (closed_up gone x) ≡ slice_get xs x
      by (before l e) = ap (λ n. slice_get (take gone xs ++ drop (suc gone) xs) n) e ∙ before-same xs gone x l
      by (behind l e) =
          let next : suc (x - 1) ≡ x = omega (arith, l) in
          ap (λ n. slice_get (take gone xs ++ drop (suc gone) xs) n) e ∙ (behind-same xs gone (x - 1) (omega (arith, l)) ∙ ap (λ n. slice_get xs n) next)

  -- and each that is left stood somewhere
  pub item-from : (xs : List A) (gone y : ℕ) → (x : ℕ) × ((x == gone) ≡ false) × (closed_up gone x ≡ y) × (slice_get (take gone xs ++ drop (suc gone) xs) y ≡ slice_get xs x)
  item-from xs gone y = by (nat_lt y gone) refl
    where
      by : (b : Bool) → nat_lt y gone ≡ b → (x : ℕ) × ((x == gone) ≡ false) × (closed_up gone x ≡ y) × (slice_get (take gone xs ++ drop (suc gone) xs) y ≡ slice_get xs x)
      by true h = let l = ltb-true y gone h in (y, ne_eqb y gone (λ s. omega (arith, s, l)), closed-before gone y (omega (arith, l)), before-same xs gone y l)
      by false h =
          let l = ltb-false y gone h in
          let back : suc y - 1 ≡ y = omega arith in
          (suc y, ne_eqb (suc y) gone (λ s. omega (arith, s, l)), closed-behind gone (suc y) (omega (arith, l)) ∙ back, behind-same xs gone y l)

-- the definitions of others
module _ (gone : ℕ) where
  abbrev Rest : List Definition → List Definition
  Rest ds = filter_map (definition_without gone) ds

  abbrev New : Definition → Definition
  New d = (closed_up gone d.0, replaced (renumbered gone) d.1)

  abbrev IsSame : List Definition → ℕ → Type 0
  IsSame ds x = defined_as (filter_map (definition_without gone) ds) (closed_up gone x) ≡ option_map (replaced (renumbered gone)) (defined_as ds x)

  pub defined-same : (ds : List Definition) (x : ℕ) → (x == gone) ≡ false → IsSame ds x
  defined-same [] x other = refl
  defined-same (d ∷ ds) x other = by (d.0 == gone) refl (defined-same ds x other)
    where
      whole : (b : Bool) → (d.0 == gone) ≡ b → filter_map (definition_without gone) (d ∷ ds) ≡ cons_option (cond b None (Some (New d))) (Rest ds)
      whole b h = ap (λ c. cons_option (cond c None (Some (New d))) (Rest ds)) h

      skipped : (d.0 == gone) ≡ true → (d.0 == x) ≡ false
      skipped h = ne_eqb d.0 x (λ s. eqb-false x gone other (sym s ∙ eqb-true d.0 gone h))

      passed : IsSame ds x → (d.0 == x) ≡ false → defined_as (Rest ds) (closed_up gone x) ≡ option_map (replaced (renumbered gone)) (defined_as (d ∷ ds) x)
      passed earlier h = earlier ∙ ap (λ b. option_map (replaced (renumbered gone)) (option_map (λ (e : Definition). e.1) (cond b (Some d) (find (λ (e : Definition). e.0 == x) ds)))) (sym h)

      kept : IsSame ds x → (b : Bool) → (d.0 == x) ≡ b → (closed_up gone d.0 == closed_up gone x) ≡ (d.0 == x)
          → defined_as ((New d) ∷ (Rest ds)) (closed_up gone x) ≡ option_map (replaced (renumbered gone)) (defined_as (d ∷ ds) x)
      kept earlier b h same =
          ap (λ c. option_map (λ (e : Definition). e.1) (cond c (Some (New d)) (find (λ (e : Definition). e.0 == closed_up gone x) (Rest ds)))) (same ∙ h)
          ∙ (either earlier b ∙ ap (λ c. option_map (replaced (renumbered gone)) (option_map (λ (e : Definition). e.1) (cond c (Some d) (find (λ (e : Definition). e.0 == x) ds)))) (sym h))
        where
          either : IsSame ds x → (c : Bool) → option_map (λ (e : Definition). e.1) (cond c (Some (New d)) (find (λ (e : Definition). e.0 == closed_up gone x) (Rest ds)))
              ≡ option_map (replaced (renumbered gone)) (option_map (λ (e : Definition). e.1) (cond c (Some d) (find (λ (e : Definition). e.0 == x) ds)))
          either earlier true = refl
          either earlier false = earlier

      by : (b : Bool) → (d.0 == gone) ≡ b → IsSame ds x → defined_as (filter_map (definition_without gone) (d ∷ ds)) (closed_up gone x) ≡ option_map (replaced (renumbered gone)) (defined_as (d ∷ ds) x)
      by true h earlier = ap (λ l. defined_as l (closed_up gone x)) (whole true h) ∙ passed earlier (skipped h)
      by false h earlier = ap (λ l. defined_as l (closed_up gone x)) (whole false h) ∙ kept earlier (d.0 == x) refl (closed-same gone d.0 x h other)

-- variables in order of their roles
pub ranks : (vs : List Variable) → AreInOrder vs → (i j : ℕ) (v w : Variable) → i < j → slice_get vs i ≡ Some v → slice_get vs j ≡ Some w → rank v.role ≤ rank w.role
ranks [] order i j v w l g h = cc
ranks (u ∷ vs) order i zero v w l g h = absurd (omega (arith, l))
ranks (u ∷ vs) order zero (suc j) v w l g h =
    let same : u ≡ v = ap (λ o. unwrap_or o u) g in
    subst (λ (a : Variable). rank a.role ≤ rank w.role) same (later vs j order.0 h)
  where
    later : (vs : List Variable) (j : ℕ) → AllByRecursion (λ (x : Variable). rank u.role ≤ rank x.role) vs → slice_get vs j ≡ Some w → rank u.role ≤ rank w.role
    later [] j all h = cc
    later (x ∷ vs) zero all h = subst (λ (a : Variable). rank u.role ≤ rank a.role) (ap (λ o. unwrap_or o x) h) all.0
    later (x ∷ vs) (suc j) all h = later vs j all.1 h
ranks (u ∷ vs) order (suc i) (suc j) v w l g h = ranks vs order.1 i j v w (omega (arith, l)) g h
