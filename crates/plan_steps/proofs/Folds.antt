-- The fold of a reduction, member by member.
use Rattle.std.proofs.Common.{◌≡◌, ℕ, ◌+◌, ◌-◌, List, [], ◌∷◌, ◌++◌, length, refl, sym, ap, subst, ◌∙◌, arith, ⊎_elim, append_assoc, append-nil, length-append}
use Rattle.std.specs.Prelude.{ℤ, fold, flat_map, map, Contains}
use Rattle.std.proofs.lemmas.List.{map_push}
use Rattle.std.proofs.lemmas.List.Sums.{fold_push}
use Rattle.std.proofs.lemmas.Grind.{flat_map-append}
use Rattle.az_lin.specs.Affine.{Union}
use Rattle.az_ast.specs.Nodes.{nodes}
use Rattle.az_ast.specs.Operators.{applied, identity}
use Rattle.az_ast.specs.Points.{AreMembers}
use Rattle.az_ast.specs.System.{System}
use Rattle.az_ast.specs.Tables.{Tables}
use Rattle.az_ast.specs.Term.{Term, reduction}
use Rattle.az_ast.specs.declared.op.Op.{Op}
use Rattle.equation_meaning.proofs.Sums.{sum-none, sum-push, Contains-push_cases}
use Rattle.equation_meaning.specs.Counts.{TermCounts}
use Rattle.execution.specs.declared.step.Step.TheVariants.{Binary}
use Rattle.std.proofs.lemmas.List.Elements.{Contains-append_right}
use Rattle.loop_scan.proofs.Lists.{AllZip-push, none_contained, Contains-first}
use Rattle.plan_words.specs.Makes.{Find, TermMakes}
use Rattle.plan_steps.specs.Inner.Laid.{Leaves, FitsIn, IsLaid, Lays, Parts, folded, IsFolded, IsFolding, LaysFold}
use Rattle.plan_steps.specs.Layouts.{Layout, empty, joined, with_constant, with_step, with_point, finds_at}
use Rattle.plan_steps.specs.Runs.{Runs}
use Rattle.plan_steps.specs.Settled.{EvaluatesAt, IsScanned}
use Rattle.plan_steps.proofs.Forms.{runs-at, constant_layout, constant-leaves, constant-fits, more-fits, binary-leaves}
use Rattle.plan_steps.proofs.Layouts.{split-found, finds-both, joined-empty, constant-behind, step-behind, point-behind, joined-assoc}
use Rattle.plan_steps.proofs.Uniqueness.{found_in}

module _ (p : System) (tables : Tables) (op : Op) (e : Term) (z : List ℤ) where
  abbrev P : List ℤ → List Find × ℤ → Type 0
  P k part = TermMakes p tables e (z ++ k) part.0 part.1

  none-folded : IsFolded p tables op e z [] (constant_layout (identity op))
  none-folded = record {
    value = value;
    room = more-fits 1 (nodes e + 1) (constant_layout (identity op)) (omega arith) (constant-fits (identity op));
    counts = ([], tt, omega (arith, sum-none));
    scanned = λ k c x d o m. absurd (none_contained k c);
  }
    where
      value : (found : List ℤ) → length found ≡ 0 →
          (parts : List (List Find × ℤ)) × Parts p tables e z [] parts × (finds_at [] found ≡ flat_map (λ part. part.0) parts) × Leaves (constant_layout (identity op)) found (folded p tables op parts)
      value [] h = ([], tt, refl, constant-leaves (identity op))
      value (v ∷ found) h = absurd (omega (arith, h))

  one-more : (points : List (List ℤ)) (k : List ℤ) (l m : Layout) → IsFolded p tables op e z points l → IsLaid p tables e (z ++ k) m →
      IsFolded p tables op e z (points ++ k ∷ []) (with_step (joined (with_point l) m) (Binary op))
  one-more points k l m h g = record {
    value = value;
    room = fits;
    counts = (
      h.counts.0 ++ m.points ∷ [],
      AllZip-push (λ q n. TermCounts e (z ++ q) n) points h.counts.0 k m.points h.counts.1 g.points,
      omega (arith, h.counts.2, sum-push h.counts.0 m.points, length-append points (k ∷ [])),
    );
    scanned = λ q c x d o t. ⊎_elim (λ s. h.scanned q s x d o t) (λ same. g.scanned x d o (subst (λ r. EvaluatesAt e (z ++ r) x d o) same t)) (Contains-push_cases points k q c);
  }
    where
      fits : FitsIn (nodes e + 1) (with_step (joined (with_point l) m) (Binary op))
      fits rest room constants loaded below r n =
          let whole : ((l.steps ++ m.steps) ++ Binary op ∷ []) ++ rest ≡ l.steps ++ (m.steps ++ Binary op ∷ rest)
          = append_assoc (l.steps ++ m.steps) (Binary op ∷ []) rest ∙ append_assoc l.steps m.steps (Binary op ∷ rest) in
          let last : Runs room (Binary op ∷ rest) constants loaded (below + 1 + 1) = (omega arith, runs-at room rest constants constants loaded loaded (below + 1) ((below + 1 + 1) - 1) refl refl (omega arith) n) in
          let later = g.room (Binary op ∷ rest) room constants loaded (below + 1) (omega (arith, r)) last in
          let all = h.room (m.steps ++ Binary op ∷ rest) room (length m.constants + constants) (length m.loads + loaded) below r later in
          subst (λ steps. Runs room steps (length (l.constants ++ m.constants) + constants) (length (l.loads ++ m.loads) + loaded) below) (sym whole)
          (runs-at room (l.steps ++ (m.steps ++ Binary op ∷ rest)) _ _ _ _ below below (omega (arith, length-append l.constants m.constants)) (omega (arith, length-append l.loads m.loads)) refl all)

      value : (found : List ℤ) → length found ≡ length (l.loads ++ m.loads) →
          (parts : List (List Find × ℤ)) × Parts p tables e z (points ++ k ∷ []) parts × (finds_at (l.loads ++ m.loads) found ≡ flat_map (λ part. part.0) parts)
          × Leaves (with_step (joined (with_point l) m) (Binary op)) found (folded p tables op parts)
      value found long =
          let halves = split-found l.loads m.loads found long in
          let x = h.value halves.left halves.left_long in
          let y = g.value halves.right halves.right_long in
          let part : List Find × ℤ = (finds_at m.loads halves.right, y.0) in
          let finds : finds_at (l.loads ++ m.loads) found ≡ finds_at l.loads halves.left ++ finds_at m.loads halves.right
          = ap (finds_at (l.loads ++ m.loads)) halves.whole ∙ finds-both l.loads m.loads halves.left halves.right halves.left_long in
          let more : found_in (x.0 ++ part ∷ []) ≡ found_in x.0 ++ finds_at m.loads halves.right
          = flat_map-append (λ (q : List Find × ℤ). q.0) x.0 (part ∷ []) ∙ ap (λ fs. found_in x.0 ++ fs) (append-nil (finds_at m.loads halves.right)) in
          let total : folded p tables op (x.0 ++ part ∷ []) ≡ applied op (folded p tables op x.0) y.0
          = ap (fold (applied op) (identity op)) (map_push (λ (q : List Find × ℤ). q.1) x.0 part) ∙ fold_push (applied op) (identity op) (map (λ (q : List Find × ℤ). q.1) x.0) y.0 in (
            x.0 ++ part ∷ [],
            AllZip-push P points x.0 k part x.1 y.1,
            finds ∙ (ap (λ fs. fs ++ finds_at m.loads halves.right) x.2 ∙ sym more),
            subst (λ f. Leaves (with_step (joined (with_point l) m) (Binary op)) f (folded p tables op (x.0 ++ part ∷ []))) (sym halves.whole)
                (subst (λ v. Leaves (with_step (joined (with_point l) m) (Binary op)) (halves.left ++ halves.right) v) (sym total) (binary-leaves op (with_point l) m halves.left halves.right (folded p tables op x.0) y.0 x.3 y.2)),
          )

  -- the loop over the members

  pub folding-start : (all : List (List ℤ)) (before now : Layout) → now ≡ with_constant before (identity op) → IsFolding p tables op e z all all before now
  folding-start all before now pushed = record {
    given = [];
    whole = refl;
    added = constant_layout (identity op);
    folded = none-folded;
    laid = pushed ∙ (ap (λ l. with_constant l (identity op)) (joined-empty before) ∙ constant-behind before empty (identity op));
  }

  pub folding-step :
      (all to_come rest : List (List ℤ)) (before now counted laid after : Layout) (k y : List ℤ) → IsFolding p tables op e z all to_come before now → to_come ≡ k ∷ rest → counted ≡ with_point now →
      y ≡ z ++ k → Lays p tables e y counted laid → after ≡ with_step laid (Binary op) → IsFolding p tables op e z all rest before after
  folding-step all to_come rest before now counted laid after k y h next point same lays stepped = record {
    given = h.given ++ k ∷ [];
    whole = append_assoc h.given (k ∷ []) rest ∙ (ap (λ ks. h.given ++ ks) (sym next) ∙ h.whole);
    added = with_step (joined (with_point h.added) lays.0) (Binary op);
    folded = one-more h.given k h.added lays.0 h.folded (subst (λ q. IsLaid p tables e q lays.0) same lays.1);
    laid = stepped ∙ (ap (λ l. with_step l (Binary op)) whole ∙ step-behind before (joined (with_point h.added) lays.0) (Binary op));
  }
    where
      whole : laid ≡ joined before (joined (with_point h.added) lays.0)
      whole = lays.2 ∙ (ap (λ l. joined l lays.0) (point ∙ (ap with_point h.laid ∙ point-behind before h.added)) ∙ joined-assoc before (with_point h.added) lays.0)

  pub folding-end : (all to_come : List (List ℤ)) (before now : Layout) → IsFolding p tables op e z all to_come before now → to_come ≡ [] → LaysFold p tables op e z all before now
  folding-end all to_come before now h none =
      let whole : h.given ≡ all = sym (append-nil h.given) ∙ (ap (λ ks. h.given ++ ks) (sym none) ∙ h.whole) in
      (h.added, subst (λ ks. IsFolded p tables op e z ks h.added) whole h.folded, h.laid)

  pub folding-next : (all to_come rest : List (List ℤ)) (before now : Layout) (k : List ℤ) → IsFolding p tables op e z all to_come before now → to_come ≡ k ∷ rest → Contains all k
  folding-next all to_come rest before now k h next =
      subst (λ ks. Contains ks k) (ap (λ ks. h.given ++ ks) (sym next) ∙ h.whole) (Contains-append_right h.given (k ∷ rest) k (Contains-first k rest))

  -- a reduction whose members are folded

  pub reduction-laid : (extra : ℕ) (domain : Union) (points : List (List ℤ)) (l : Layout) → AreMembers domain z extra points → IsScanned domain z → IsFolded p tables op e z points l →
      IsLaid p tables (reduction op extra domain e) z l
  reduction-laid extra domain points l members scan h = record {
    value = λ found long.
        let one = h.value found long in
        (folded p tables op one.0, record { points = points; parts = one.0; members = members; bodies = one.1; whole = one.2; result = refl }, one.3);
    room = h.room;
    points = record { points = points; counts = h.counts.0; members = members; bodies = h.counts.1; result = h.counts.2 };
    scanned = λ x d o m.
        ⊎_elim (λ own. subst (λ (q : Union). IsScanned q o) own.same_domain (subst (λ q. IsScanned domain q) own.same_outer scan))
        (λ inner. h.scanned inner.0 (members.every inner.0 inner.1) x d o inner.2) m;
  }
