-- A row that is added to a nest: it bounds one level, and then the nest accepts the points at which it is at least 0.
use Rattle.std.proofs.Common.{◌≡◌, ◌≢◌, ℕ, zero, suc, ◌+◌, ◌<◌, List, [], ◌∷◌, ◌++◌, length, take, set, get_or, refl, sym, subst, ap, ◌∙◌, arith, append_assoc}
use Rattle.std.specs.Prelude.{ℤ, pos, ◌+ℤ◌, ◌*ℤ◌, Some, fold}
use Rattle.std.specs.List.{All, AllZip}
use Rattle.std.proofs.lemmas.Int.{ints}
use Rattle.std.proofs.lemmas.List.{append-nil}
use Rattle.std.proofs.lemmas.List.Sums.{fold-append}
use Rattle.std.proofs.lemmas.List.Elements.{All-push, All-nil, All-head, All-tail}
use Rattle.az_lin.specs.Affine.{Affine, dot, value_at}
use Rattle.loop_scan.specs.declared.range.Range.{Range}
use Rattle.loop_scan.specs.declared.bound.Bound.{Bound}
use Rattle.loop_scan.specs.declared.level.Level.{Level}
use Rattle.loop_scan.specs.Nest.Levels.{IsIn, Admits, narrowed_at, range_at, IsBound, IsLevel, AreLevels, HasCoordinates}
use Rattle.loop_scan.specs.Nest.Walks.{Passes}
use Rattle.loop_scan.specs.Nest.Nests.{IsLastColumn}
use Rattle.loop_scan.proofs.Ranges.{in_narrowed, narrowed_has}

-- the value of a row whose later coefficients are 0
pub dot-zeros : (cs y : List ℤ) → ((k : ℕ) → k < length cs → get_or cs k (pos 0) ≡ pos 0) → dot cs y ≡ pos 0
dot-zeros [] y zeros = refl
dot-zeros (c ∷ cs) [] zeros = refl
dot-zeros (c ∷ cs) (x ∷ y) zeros =
    let none : c ≡ pos 0 = zeros 0 (omega arith) in
    let rest : dot cs y ≡ pos 0 = dot-zeros cs y (λ k h. zeros (suc k) (omega arith)) in
    ap (λ n. (n *ℤ x) +ℤ dot cs y) none ∙ omega (arith, ints, rest)

pub dot-cut : (cs y : List ℤ) (k : ℕ) → k < length cs → k < length y → ((j : ℕ) → k < j → j < length cs → get_or cs j (pos 0) ≡ pos 0)
    → dot cs y ≡ dot (take k cs) (take k y) +ℤ (get_or cs k (pos 0) *ℤ get_or y k (pos 0))
dot-cut [] y k h i zeros = absurd (omega arith)
dot-cut (c ∷ cs) [] k h i zeros = absurd (omega arith)
dot-cut (c ∷ cs) (x ∷ y) zero h i zeros =
    let rest : dot cs y ≡ pos 0 = dot-zeros cs y (λ j l. zeros (suc j) (omega arith) (omega arith)) in omega (arith, ints, rest)
dot-cut (c ∷ cs) (x ∷ y) (suc k) h i zeros =
    let rest = dot-cut cs y k (omega arith) (omega arith) (λ j l m. zeros (suc j) (omega arith) (omega arith)) in omega (arith, ints, rest)

pub value_at-cut : (row : Affine) (y : List ℤ) (k : ℕ) → length y ≡ length row.coefs → IsLastColumn row.coefs (length row.coefs) (Some k)
    → value_at row y ≡ (get_or row.coefs k (pos 0) *ℤ get_or y k (pos 0)) +ℤ value_at (record { coefs = take k row.coefs; konst = row.konst }) (take k y)
value_at-cut row y k e last =
    let cut = dot-cut row.coefs y k last.0 (omega (arith, last.0)) last.2 in omega (arith, ints, cut)

-- a level with one more bound
abbrev pub Bounded : Bound → Level → Level → Type 0
Bounded bound old new = (new.range ≡ old.range) × (new.bounds.items ≡ old.bounds.items ++ bound ∷ [])

range_at-bounded : (bound : Bound) (old new : Level) (z : List ℤ) → Bounded bound old new → range_at new z ≡ narrowed_at z (range_at old z) bound
range_at-bounded bound old new z is =
    ap (λ r. fold (narrowed_at z) r new.bounds.items) is.0 ∙ ap (fold (narrowed_at z) old.range) is.1
    ∙ fold-append (narrowed_at z) old.range old.bounds.items (bound ∷ [])

pub IsLevel-bounded : (k : ℕ) (bound : Bound) (old new : Level) → IsBound k bound → Bounded bound old new → IsLevel k old → IsLevel k new
IsLevel-bounded k bound old new fits is level =
    let P : List Bound → Type 0 = All (IsBound k) in
    record {
      bounds = subst P (sym is.1) (All-push (IsBound k) old.bounds.items bound level.bounds fits);
      coordinates = subst HasCoordinates (sym is.0) level.coordinates;
    }

pub AreLevels-set : (n k : ℕ) (levels : List Level) (new : Level) → k < length levels → AreLevels n levels → IsLevel (n + k) new → AreLevels n (set levels k new)
AreLevels-set n k [] new h are is = absurd (omega arith)
AreLevels-set n zero (level ∷ levels) new h are is = let P : ℕ → Type 0 = λ m. IsLevel m new in (subst P (omega arith) is, are.1)
AreLevels-set n (suc k) (level ∷ levels) new h are is =
    let P : ℕ → Type 0 = λ m. IsLevel m new in
    (are.0, AreLevels-set (suc n) k levels new (omega arith) are.1 (subst P (omega arith) is))

-- what then passes
module _ (bound : Bound) (nonzero : bound.coef ≢ pos 0) (new : Level) where
  pub Passes-bounded : (k : ℕ) (levels : List Level) (z y : List ℤ) (d : Level) → k < length levels → Bounded bound (get_or levels k d) new
      → Passes (set levels k new) z y → Passes levels z y × Admits (z ++ take k y) bound (get_or y k (pos 0))
  Passes-bounded k [] z y d h is p = absurd (omega arith)
  Passes-bounded zero (level ∷ levels) z [] d h is p = absurd p
  Passes-bounded zero (level ∷ levels) z (x ∷ y) d h is p =
      let P : Range → Type 0 = λ r. IsIn r x in
      let parts = in_narrowed bound.coef (value_at bound.rest z) x (range_at level z) nonzero (subst P (range_at-bounded bound level new z is) p.0) in
      let Q : List ℤ → Type 0 = λ w. Admits w bound x in
      ((parts.0, p.1), subst Q (sym (append-nil z)) parts.1)
  Passes-bounded (suc k) (level ∷ levels) z [] d h is p = absurd p
  Passes-bounded (suc k) (level ∷ levels) z (x ∷ y) d h is p =
      let rest = Passes-bounded k levels (z ++ x ∷ []) y d (omega arith) is p.1 in
      let Q : List ℤ → Type 0 = λ w. Admits w bound (get_or y k (pos 0)) in
      ((p.0, rest.0), subst Q (append_assoc z (x ∷ []) (take k y)) rest.1)

  pub Passes-admitted : (k : ℕ) (levels : List Level) (z y : List ℤ) (d : Level) → k < length levels → Bounded bound (get_or levels k d) new
      → Passes levels z y → Admits (z ++ take k y) bound (get_or y k (pos 0)) → Passes (set levels k new) z y
  Passes-admitted k [] z y d h is p a = absurd (omega arith)
  Passes-admitted zero (level ∷ levels) z [] d h is p a = absurd p
  Passes-admitted zero (level ∷ levels) z (x ∷ y) d h is p a =
      let P : Range → Type 0 = λ r. IsIn r x in
      let Q : List ℤ → Type 0 = λ w. Admits w bound x in (
        subst P (sym (range_at-bounded bound level new z is))
            (narrowed_has bound.coef (value_at bound.rest z) x (range_at level z) nonzero p.0 (subst Q (append-nil z) a)),
        p.1,
      )
  Passes-admitted (suc k) (level ∷ levels) z [] d h is p a = absurd p
  Passes-admitted (suc k) (level ∷ levels) z (x ∷ y) d h is p a =
      let Q : List ℤ → Type 0 = λ w. Admits w bound (get_or y k (pos 0)) in
      (p.0, Passes-admitted k levels (z ++ x ∷ []) y d (omega arith) is p.1 (subst Q (sym (append_assoc z (x ∷ []) (take k y))) a))

-- levels without bounds
abbrev pub IsPlain : Range → Level → Type 0
IsPlain range level = (level.range ≡ range) × (level.bounds.items ≡ [])

range_at-plain : (range : Range) (level : Level) (z : List ℤ) → IsPlain range level → range_at level z ≡ range
range_at-plain range level z is = ap (fold (narrowed_at z) level.range) is.1 ∙ is.0

pub Passes-plain : (ranges : List Range) (levels : List Level) (z y : List ℤ) → AllZip IsPlain ranges levels → Passes levels z y → AllZip IsIn ranges y
Passes-plain [] [] z [] are p = tt
Passes-plain [] [] z (x ∷ y) are p = absurd p
Passes-plain [] (level ∷ levels) z y are p = absurd are
Passes-plain (range ∷ ranges) [] z y are p = absurd are
Passes-plain (range ∷ ranges) (level ∷ levels) z [] are p = absurd p
Passes-plain (range ∷ ranges) (level ∷ levels) z (x ∷ y) are p =
    let P : Range → Type 0 = λ r. IsIn r x in
    (subst P (range_at-plain range level z are.0) p.0, Passes-plain ranges levels (z ++ x ∷ []) y are.1 p.1)

pub plain-Passes : (ranges : List Range) (levels : List Level) (z y : List ℤ) → AllZip IsPlain ranges levels → AllZip IsIn ranges y → Passes levels z y
plain-Passes [] [] z [] are p = tt
plain-Passes [] [] z (x ∷ y) are p = absurd p
plain-Passes [] (level ∷ levels) z y are p = absurd are
plain-Passes (range ∷ ranges) [] z y are p = absurd are
plain-Passes (range ∷ ranges) (level ∷ levels) z [] are p = absurd p
plain-Passes (range ∷ ranges) (level ∷ levels) z (x ∷ y) are p =
    let P : Range → Type 0 = λ r. IsIn r x in
    (subst P (sym (range_at-plain range level z are.0)) p.0, plain-Passes ranges levels (z ++ x ∷ []) y are.1 p.1)

pub AreLevels-plain : (n : ℕ) (ranges : List Range) (levels : List Level) → All HasCoordinates ranges → AllZip IsPlain ranges levels → AreLevels n levels
AreLevels-plain n [] [] all are = tt
AreLevels-plain n [] (level ∷ levels) all are = absurd are
AreLevels-plain n (range ∷ ranges) [] all are = absurd are
AreLevels-plain n (range ∷ ranges) (level ∷ levels) all are =
    let P : List Bound → Type 0 = All (IsBound n) in (
      record {
        bounds = subst P (sym are.0.1) (All-nil (IsBound n));
        coordinates = subst HasCoordinates (sym are.0.0) (All-head HasCoordinates range ranges all);
      },
      AreLevels-plain (suc n) ranges levels (All-tail HasCoordinates range ranges all) are.1,
    )
