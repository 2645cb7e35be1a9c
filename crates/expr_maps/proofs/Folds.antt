-- Folds over points that come from two parts, by parts, and over points that are moved.
use Rattle.std.proofs.Common.{◌≡◌, ◌↔◌, ◌⊎◌, inl, inr, ⊎_elim, ℕ, List, [], ◌∷◌, ◌++◌, refl, sym, ap, ap₂, subst, ◌∙◌, arith}
use Rattle.std.specs.Prelude.{ℤ, fold, Contains}
use Rattle.std.specs.List.{AllByRecursion, AllZip}
use Rattle.std.specs.declared.cmp.Ordering.{Ordering}
use Rattle.std.specs.declared.cmp.Ordering.TheVariants.{Less, Equal, Greater}
use Rattle.std.specs.Ordering.{int_cmp, ordering_reverse}
use Rattle.std.specs.Cmp.{IsTotalOrder, int_cmp_total}
use Rattle.std.specs.Cmp.Lexicographic.{slice_cmp, lists_total}
use Rattle.az_ast.specs.Meaning.{Values, FoldGives}
use Rattle.az_ast.specs.Operators.{applied, identity, FoldsFromIdentity}
use Rattle.az_ast.proofs.OperatorLaws.{applied-assoc, applied-comm, applied-identity, wrapped-word, identity-IsWord}
use Rattle.az_ast.specs.Points.{Precedes, IsIncreasing, IsMember}
use Rattle.az_ast.specs.declared.op.Op.{Op}
use Rattle.az_ast.proofs.Members.{Contains-cases, Contains-first, Contains-rest, All-Contains}
use Rattle.az_ast.proofs.TableLemmas.{same_point, Precedes-differs, Precedes-chain}
use Rattle.az_lin.specs.Affine.{Union}
use Rattle.expr_maps.specs.Folds.{FoldOver, IsFoldable}
use Rattle.expr_maps.proofs.Members.{AllZip-members, All-map_by}

-- the order of points
points_total : IsTotalOrder (slice_cmp int_cmp)
points_total = lists_total int_cmp_total

pub compared : (a b : List ℤ) → Precedes a b ⊎ ((a ≡ b) ⊎ Precedes b a)
compared a b = by (slice_cmp int_cmp a b) refl
  where
    by : (r : Ordering) → slice_cmp int_cmp a b ≡ r → Precedes a b ⊎ ((a ≡ b) ⊎ Precedes b a)
    by Less e = inl e
    by Equal e = inr (inl (same_point a b e))
    by Greater e = inr (inr (points_total.antisymm b a ∙ ap ordering_reverse e))

-- all of a list, from its members
pub All-from_members : (P : List ℤ → Type 0) (xs : List (List ℤ)) → ((k : List ℤ) → Contains xs k → P k) → AllByRecursion P xs
All-from_members P [] each = tt
All-from_members P (x ∷ xs) each = (each x (Contains-first x xs), All-from_members P xs (λ k c. each k (Contains-rest x xs k c)))

none-contained : (k : List ℤ) → Contains {X = List ℤ} [] k → ⊥
none-contained k (i, within, e) = omega arith

-- no point of the rest is the first
pub first-once : (p : List ℤ) (ps : List (List ℤ)) → IsIncreasing (p ∷ ps) → Contains ps p → ⊥
first-once p ps increasing again = Precedes-differs p p (All-Contains (Precedes p) ps p increasing.0 again) refl

module _ (f : ℤ → ℤ → ℤ) (unit : ℤ) (foldable : IsFoldable f unit) where
  swapped : (a b c : ℤ) → f (f a b) c ≡ f (f a c) b
  swapped a b c = foldable.associative a b c ∙ (ap (f a) (foldable.commutative b c) ∙ sym (foldable.associative a c b))

  pub fold-out : (a b : ℤ) (vs : List ℤ) → fold f (f a b) vs ≡ f (fold f a vs) b
  fold-out a b [] = refl
  fold-out a b (v ∷ vs) = ap (λ c. fold f c vs) (swapped a b v) ∙ fold-out (f a v) b vs

  pub fold-unit : (vs : List ℤ) → f (fold f unit vs) unit ≡ fold f unit vs
  fold-unit vs = sym (fold-out unit unit vs) ∙ ap (λ c. fold f c vs) foldable.unit_twice

  module _ (body : Values) where
    -- one more point
    record Added (ps : List (List ℤ)) (vs : List ℤ) (p : List ℤ) (w : ℤ) : Type 0 where
      points : List (List ℤ)
      values : List ℤ
      increasing : IsIncreasing points
      bodies : AllZip body points values
      here : Contains points p
      kept : (k : List ℤ) → Contains ps k → Contains points k
      only : (k : List ℤ) → Contains points k → (k ≡ p) ⊎ Contains ps k
      result : (a : ℤ) → fold f a values ≡ f (fold f a vs) w

    added : (ps : List (List ℤ)) (vs : List ℤ) → IsIncreasing ps → AllZip body ps vs → (p : List ℤ) (w : ℤ) → body p w → (Contains ps p → ⊥) → Added ps vs p w
    added [] [] increasing bodies p w b new = record {
      points = p ∷ [];
      values = w ∷ [];
      increasing = (tt, tt);
      bodies = (b, tt);
      here = Contains-first p [];
      kept = λ k c. absurd (none-contained k c);
      only = λ k c. ⊎_elim (λ e. inl e) (λ later. inr later) (Contains-cases p [] k c);
      result = λ a. refl;
    }
    added [] (v ∷ vs) increasing bodies p w b new = absurd bodies
    added (q ∷ qs) [] increasing bodies p w b new = absurd bodies
    added (q ∷ qs) (v ∷ vs) increasing bodies p w b new =
        ⊎_elim
        (λ before. record {
          points = p ∷ q ∷ qs;
          values = w ∷ v ∷ vs;
          increasing = ((before, All-map_by (Precedes q) (Precedes p) (λ k h. Precedes-chain p q k before h) qs increasing.0), increasing);
          bodies = (b, bodies);
          here = Contains-first p (q ∷ qs);
          kept = λ k c. Contains-rest p (q ∷ qs) k c;
          only = λ k c. Contains-cases p (q ∷ qs) k c;
          result = λ a. ap (λ c. fold f c vs) (swapped a w v) ∙ fold-out (f a v) w vs;
        })
        (λ other. ⊎_elim
        (λ same. absurd (new (subst (λ k. Contains (q ∷ qs) k) (sym same) (Contains-first q qs))))
        (λ after.
        let rest = added qs vs increasing.1 bodies.1 p w b (λ c. new (Contains-rest q qs p c)) in
        record {
          points = q ∷ rest.points;
          values = v ∷ rest.values;
          increasing = (All-from_members (Precedes q) rest.points (λ k c. ⊎_elim (λ e. subst (Precedes q) (sym e) after) (λ old. All-Contains (Precedes q) qs k increasing.0 old) (rest.only k c)), rest.increasing);
          bodies = (bodies.0, rest.bodies);
          here = Contains-rest q rest.points p rest.here;
          kept = λ k c. ⊎_elim (λ e. subst (λ x. Contains (q ∷ rest.points) x) (sym e) (Contains-first q rest.points)) (λ old. Contains-rest q rest.points k (rest.kept k old)) (Contains-cases q qs k c);
          only = λ k c. ⊎_elim (λ e. inr (subst (λ x. Contains (q ∷ qs) x) (sym e) (Contains-first q qs))) (λ later. ⊎_elim (λ e. inl e) (λ old. inr (Contains-rest q qs k old)) (rest.only k later)) (Contains-cases q rest.points k c);
          result = λ a. rest.result (f a v);
        })
        other)
        (compared p q)

    -- the points of two lists
    record Joined (ps : List (List ℤ)) (vs : List ℤ) (qs : List (List ℤ)) (ws : List ℤ) : Type 0 where
      points : List (List ℤ)
      values : List ℤ
      increasing : IsIncreasing points
      bodies : AllZip body points values
      left : (k : List ℤ) → Contains ps k → Contains points k
      right : (k : List ℤ) → Contains qs k → Contains points k
      only : (k : List ℤ) → Contains points k → Contains ps k ⊎ Contains qs k
      result : fold f unit values ≡ f (fold f unit vs) (fold f unit ws)

    joined : (ps : List (List ℤ)) (vs : List ℤ) → IsIncreasing ps → AllZip body ps vs → (qs : List (List ℤ)) (ws : List ℤ) → IsIncreasing qs → AllZip body qs ws
        → ((k : List ℤ) → Contains ps k → Contains qs k → ⊥) → Joined ps vs qs ws
    joined ps vs increasing bodies [] [] increasing' bodies' apart = record {
      points = ps;
      values = vs;
      increasing = increasing;
      bodies = bodies;
      left = λ k c. c;
      right = λ k c. absurd (none-contained k c);
      only = λ k c. inl c;
      result = sym (fold-unit vs);
    }
    joined ps vs increasing bodies [] (w ∷ ws) increasing' bodies' apart = absurd bodies'
    joined ps vs increasing bodies (q ∷ qs) [] increasing' bodies' apart = absurd bodies'
    joined ps vs increasing bodies (q ∷ qs) (w ∷ ws) increasing' bodies' apart =
        let rest = joined ps vs increasing bodies qs ws increasing'.1 bodies'.1 (λ k c d. apart k c (Contains-rest q qs k d)) in
        let new : Contains rest.points q → ⊥ = λ c. ⊎_elim (λ old. apart q old (Contains-first q qs)) (λ again. first-once q qs increasing' again) (rest.only q c) in
        let all = added rest.points rest.values rest.increasing rest.bodies q w bodies'.0 new in
        record {
          points = all.points;
          values = all.values;
          increasing = all.increasing;
          bodies = all.bodies;
          left = λ k c. all.kept k (rest.left k c);
          right = λ k c. ⊎_elim (λ e. subst (λ x. Contains all.points x) (sym e) all.here) (λ old. all.kept k (rest.right k old)) (Contains-cases q qs k c);
          only = λ k c. ⊎_elim (λ e. inr (subst (λ x. Contains (q ∷ qs) x) (sym e) (Contains-first q qs))) (λ old. ⊎_elim (λ l. inl l) (λ r. inr (Contains-rest q qs k r)) (rest.only k old)) (all.only k c);
          result = all.result unit ∙ (ap (λ x. f x w) rest.result ∙ (foldable.associative (fold f unit vs) (fold f unit ws) w ∙ ap (f (fold f unit vs)) (sym (fold-out unit w ws))));
        }

    -- those with a property, and the others
    record Split (IsFirst : List ℤ → Type 0) (ps : List (List ℤ)) (vs : List ℤ) : Type 0 where
      firsts : List (List ℤ)
      first_values : List ℤ
      others : List (List ℤ)
      other_values : List ℤ
      firsts_increasing : IsIncreasing firsts
      others_increasing : IsIncreasing others
      first_bodies : AllZip body firsts first_values
      other_bodies : AllZip body others other_values
      firsts_in : (k : List ℤ) → Contains firsts k → Contains ps k × IsFirst k
      others_in : (k : List ℤ) → Contains others k → Contains ps k × (IsFirst k → ⊥)
      every : (k : List ℤ) → Contains ps k → Contains firsts k ⊎ Contains others k
      result : fold f unit vs ≡ f (fold f unit first_values) (fold f unit other_values)

    split : (IsFirst : List ℤ → Type 0) (ps : List (List ℤ)) (vs : List ℤ) → IsIncreasing ps → AllZip body ps vs → ((k : List ℤ) → Contains ps k → IsFirst k ⊎ (IsFirst k → ⊥)) → Split IsFirst ps vs
    split IsFirst [] [] increasing bodies decided = record {
      firsts = [];
      first_values = [];
      others = [];
      other_values = [];
      firsts_increasing = tt;
      others_increasing = tt;
      first_bodies = tt;
      other_bodies = tt;
      firsts_in = λ k c. absurd (none-contained k c);
      others_in = λ k c. absurd (none-contained k c);
      every = λ k c. absurd (none-contained k c);
      result = sym foldable.unit_twice;
    }
    split IsFirst [] (v ∷ vs) increasing bodies decided = absurd bodies
    split IsFirst (p ∷ ps) [] increasing bodies decided = absurd bodies
    split IsFirst (p ∷ ps) (v ∷ vs) increasing bodies decided =
        let rest = split IsFirst ps vs increasing.1 bodies.1 (λ k c. decided k (Contains-rest p ps k c)) in
        let a = fold f unit rest.first_values in
        let o = fold f unit rest.other_values in
        let whole : fold f unit (v ∷ vs) ≡ f (f a o) v = fold-out unit v vs ∙ ap (λ x. f x v) rest.result in
        ⊎_elim
        (λ is. record {
          firsts = p ∷ rest.firsts;
          first_values = v ∷ rest.first_values;
          others = rest.others;
          other_values = rest.other_values;
          firsts_increasing = (All-from_members (Precedes p) rest.firsts (λ k c. All-Contains (Precedes p) ps k increasing.0 (rest.firsts_in k c).0), rest.firsts_increasing);
          others_increasing = rest.others_increasing;
          first_bodies = (bodies.0, rest.first_bodies);
          other_bodies = rest.other_bodies;
          firsts_in = λ k c. ⊎_elim (λ e. (subst (λ x. Contains (p ∷ ps) x) (sym e) (Contains-first p ps), subst IsFirst (sym e) is)) (λ later. let old = rest.firsts_in k later in (Contains-rest p ps k old.0, old.1)) (Contains-cases p rest.firsts k c);
          others_in = λ k c. let old = rest.others_in k c in (Contains-rest p ps k old.0, old.1);
          every = λ k c. ⊎_elim (λ e. inl (subst (λ x. Contains (p ∷ rest.firsts) x) (sym e) (Contains-first p rest.firsts))) (λ later. ⊎_elim (λ l. inl (Contains-rest p rest.firsts k l)) (λ r. inr r) (rest.every k later)) (Contains-cases p ps k c);
          result = whole ∙ (swapped a o v ∙ ap (λ x. f x o) (sym (fold-out unit v rest.first_values)));
        })
        (λ not. record {
          firsts = rest.firsts;
          first_values = rest.first_values;
          others = p ∷ rest.others;
          other_values = v ∷ rest.other_values;
          firsts_increasing = rest.firsts_increasing;
          others_increasing = (All-from_members (Precedes p) rest.others (λ k c. All-Contains (Precedes p) ps k increasing.0 (rest.others_in k c).0), rest.others_increasing);
          first_bodies = rest.first_bodies;
          other_bodies = (bodies.0, rest.other_bodies);
          firsts_in = λ k c. let old = rest.firsts_in k c in (Contains-rest p ps k old.0, old.1);
          others_in = λ k c. ⊎_elim (λ e. (subst (λ x. Contains (p ∷ ps) x) (sym e) (Contains-first p ps), λ is. not (subst IsFirst e is))) (λ later. let old = rest.others_in k later in (Contains-rest p ps k old.0, old.1)) (Contains-cases p rest.others k c);
          every = λ k c. ⊎_elim (λ e. inr (subst (λ x. Contains (p ∷ rest.others) x) (sym e) (Contains-first p rest.others))) (λ later. ⊎_elim (λ l. inl l) (λ r. inr (Contains-rest p rest.others k r)) (rest.every k later)) (Contains-cases p ps k c);
          result = whole ∙ (foldable.associative a o v ∙ ap (f a) (sym (fold-out unit v rest.other_values)));
        })
        (decided p (Contains-first p ps))

    -- two folds over points that are apart are one
    pub FoldOver-joined : (P Q R : List ℤ → Type 0) (v w : ℤ) → ((k : List ℤ) → R k ↔ (P k ⊎ Q k)) → ((k : List ℤ) → P k → Q k → ⊥)
        → FoldOver f unit P body v → FoldOver f unit Q body w → FoldOver f unit R body (f v w)
    FoldOver-joined P Q R v w parts apart first second =
        let both = joined first.points first.values first.increasing first.bodies second.points second.values second.increasing second.bodies
        (λ k c d. apart k (All-Contains P first.points k first.only c) (All-Contains Q second.points k second.only d)) in
        record {
          points = both.points;
          values = both.values;
          increasing = both.increasing;
          only = All-from_members R both.points (λ k c. (parts k).1 (⊎_elim (λ l. inl (All-Contains P first.points k first.only l)) (λ r. inr (All-Contains Q second.points k second.only r)) (both.only k c)));
          every = λ k is. ⊎_elim (λ l. both.left k (first.every k l)) (λ r. both.right k (second.every k r)) ((parts k).0 is);
          bodies = both.bodies;
          result = ap₂ f first.result second.result ∙ sym both.result;
        }

    -- and a fold over points is that of two parts
    pub FoldOver-split : (P IsFirst : List ℤ → Type 0) (v : ℤ) → ((k : List ℤ) → P k → IsFirst k ⊎ (IsFirst k → ⊥)) → FoldOver f unit P body v
        → (x : ℤ) × (y : ℤ) × FoldOver f unit (λ k. P k × IsFirst k) body x × FoldOver f unit (λ k. P k × (IsFirst k → ⊥)) body y × (v ≡ f x y)
    FoldOver-split P IsFirst v decided over =
        let parts = split IsFirst over.points over.values over.increasing over.bodies (λ k c. decided k (All-Contains P over.points k over.only c)) in (
          fold f unit parts.first_values,
          fold f unit parts.other_values,
          record {
            points = parts.firsts;
            values = parts.first_values;
            increasing = parts.firsts_increasing;
            only = All-from_members (λ k. P k × IsFirst k) parts.firsts (λ k c. let h = parts.firsts_in k c in (All-Contains P over.points k over.only h.0, h.1));
            every = λ k is. ⊎_elim (λ l. l) (λ r. absurd ((parts.others_in k r).1 is.1)) (parts.every k (over.every k is.0));
            bodies = parts.first_bodies;
            result = refl;
          },
          record {
            points = parts.others;
            values = parts.other_values;
            increasing = parts.others_increasing;
            only = All-from_members (λ k. P k × (IsFirst k → ⊥)) parts.others (λ k c. let h = parts.others_in k c in (All-Contains P over.points k over.only h.0, h.1));
            every = λ k is. ⊎_elim (λ l. absurd (is.1 (parts.firsts_in k l).1)) (λ r. r) (parts.every k (over.every k is.0));
            bodies = parts.other_bodies;
            result = refl;
          },
          over.result ∙ parts.result,
        )

-- the same points with the same values
pub FoldOver-same : (f : ℤ → ℤ → ℤ) (unit : ℤ) (P Q : List ℤ → Type 0) (body other : Values) (v : ℤ) → ((k : List ℤ) → P k ↔ Q k) → ((k : List ℤ) (w : ℤ) → P k → body k w → other k w)
    → FoldOver f unit P body v → FoldOver f unit Q other v
FoldOver-same f unit P Q body other v points values over = record {
  points = over.points;
  values = over.values;
  increasing = over.increasing;
  only = All-map_by P Q (λ k. (points k).0) over.points over.only;
  every = λ k is. over.every k ((points k).1 is);
  bodies = AllZip-members P body other values over.points over.values over.only over.bodies;
  result = over.result;
}

-- a reduction is a fold over its members
pub FoldOver-from_gives : (op : Op) (extra : ℕ) (domain : Union) (body : Values) (z : List ℤ) (v : ℤ) → FoldGives op extra domain body z v → FoldOver (applied op) (identity op) (IsMember domain z extra) (λ k w. body (z ++ k) w) v
FoldOver-from_gives op extra domain body z v g =
    record { points = g.points; values = g.values; increasing = g.members.increasing; only = g.members.only; every = g.members.every; bodies = g.bodies; result = g.result }

pub FoldGives-from_over : (op : Op) (extra : ℕ) (domain : Union) (body : Values) (z : List ℤ) (v : ℤ) → FoldOver (applied op) (identity op) (IsMember domain z extra) (λ k w. body (z ++ k) w) v → FoldGives op extra domain body z v
FoldGives-from_over op extra domain body z v over =
    record { points = over.points; values = over.values; members = record { increasing = over.increasing; only = over.only; every = over.every }; bodies = over.bodies; result = over.result }

-- the operators of reductions are foldable
pub operator-foldable : (op : Op) → FoldsFromIdentity op → IsFoldable (applied op) (identity op)
operator-foldable op folds = record {
  associative = applied-assoc op folds;
  commutative = applied-comm op folds;
  unit_twice = applied-identity op folds (identity op) ∙ wrapped-word (identity op) (identity-IsWord op);
}
