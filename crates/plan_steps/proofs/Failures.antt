-- Why a part isn't laid out is why the whole isn't.
use Rattle.std.proofs.Common.{◌≡◌, ℕ, ◌+◌, ◌≤◌, List, [], ◌∷◌, ◌++◌, length, refl, sym, ap, subst, ◌∙◌, arith, inl, inr, length-append, replicate}
use Rattle.std.proofs.lemmas.List.{length-replicate}
use Rattle.std.specs.Prelude.{ℤ, pos, Contains}
use Rattle.std.specs.List.{AllZip, sum}
use Rattle.az_lin.specs.Affine.{Union}
use Rattle.az_lin.specs.declared.limit.Limit.TheVariants.{Points}
use Rattle.az_ast.proofs.Members.{AreMembers-unique, All-Contains}
use Rattle.az_ast.specs.Points.{AreMembers, IsMember}
use Rattle.az_ast.specs.System.{System}
use Rattle.az_ast.specs.Tables.{Tables}
use Rattle.az_ast.specs.Term.{Term, negation, binary, reduction}
use Rattle.az_ast.specs.declared.op.Op.{Op}
use Rattle.equation_meaning.proofs.Once.{counts-once}
use Rattle.equation_meaning.proofs.Sums.{zipped-once}
use Rattle.equation_meaning.specs.Counts.{TermCounts}
use Rattle.loop_scan.proofs.Lists.{Contains-first}
use Rattle.std.proofs.lemmas.List.Elements.{Contains-append_right}
use Rattle.std.proofs.lemmas.Grind.{flat_map-append}
use Rattle.std.proofs.lemmas.List.Sums.{sum_by-cons, sum_by-append}
use Rattle.plan_steps.specs.Settled.{EvaluatesAt}
use Rattle.loop_scan.specs.Boxes.{Refuses}
use Rattle.loop_scan.specs.declared.fault.ScanFault.{ScanFault}
use Rattle.loop_scan.specs.declared.fault.ScanFault.TheVariants.{Limit}
use Rattle.plan_words.specs.Makes.{Find, TermMakes}
use Rattle.plan_steps.specs.Inner.Laid.{IsLaid, Lays, Parts, IsFolded, IsFolding, Fails, FailsFold}
use Rattle.plan_steps.specs.Layouts.{Layout, with_point, finds_at}
use Rattle.plan_steps.proofs.Layouts.{finds-long}
use Rattle.plan_steps.proofs.Uniqueness.{found_in, parts-long, makes-long}

-- items that belong to a list which is cut at one of its elements
pub record IsCut {A B : Type 0} (P : A → B → Type 0) (xs : List A) (x : A) (ys : List A) (items : List B) : Type 0 where
  pub left : List B
  pub item : B
  pub right : List B
  pub first : AllZip P xs left
  pub here : P x item
  pub whole : items ≡ left ++ item ∷ right

pub cut-at : {A B : Type 0} (P : A → B → Type 0) (xs : List A) (x : A) (ys : List A) (items : List B) → AllZip P (xs ++ x ∷ ys) items → IsCut P xs x ys items
cut-at P [] x ys [] h = absurd h
cut-at P [] x ys (item ∷ items) h = record { left = []; item = item; right = items; first = tt; here = h.0; whole = refl }
cut-at P (y ∷ xs) x ys [] h = absurd h
cut-at P (y ∷ xs) x ys (item ∷ items) h =
    let rest = cut-at P xs x ys items h.1 in
    record { left = item ∷ rest.left; item = rest.item; right = rest.right; first = (h.0, rest.first); here = rest.here; whole = ap (λ is. item ∷ is) rest.whole }

sum-cut : (ms : List ℕ) (n : ℕ) (rest : List ℕ) → sum (ms ++ n ∷ rest) ≡ sum ms + (n + sum rest)
sum-cut ms n rest = sum_by-append (λ (x : ℕ). x) ms (n ∷ rest) ∙ ap (λ s. sum ms + s) (sum_by-cons (λ (x : ℕ). x) n rest)

found-cut : (xs : List (List Find × ℤ)) (x : List Find × ℤ) (rest : List (List Find × ℤ)) → length (found_in (xs ++ x ∷ rest)) ≡ length (found_in xs) + (length x.0 + length (found_in rest))
found-cut xs x rest =
    ap length (flat_map-append (λ (q : List Find × ℤ). q.0) xs (x ∷ rest)) ∙ (length-append (found_in xs) (x.0 ++ found_in rest) ∙ ap (λ n. length (found_in xs) + n) (length-append x.0 (found_in rest)))

module _ (p : System) (tables : Tables) where
  -- a body finds as many values as it has loads
  laid-long : (e : Term) (z : List ℤ) (l : Layout) (finds : List Find) (v : ℤ) → IsLaid p tables e z l → TermMakes p tables e z finds v → length finds ≡ length l.loads
  laid-long e z l finds v h makes =
      let zeros = replicate (length l.loads) (pos 0) in
      let long : length zeros ≡ length l.loads = length-replicate (length l.loads) (pos 0) in
      let one = h.value zeros long in
      makes-long p tables e z finds (finds_at l.loads zeros) v one.0 makes one.1 ∙ finds-long l.loads zeros long

  folded-long : (op : Op) (e : Term) (z : List ℤ) (points : List (List ℤ)) (l : Layout) (parts : List (List Find × ℤ)) → IsFolded p tables op e z points l → Parts p tables e z points parts → length (found_in parts) ≡ length l.loads
  folded-long op e z points l parts h all =
      let zeros = replicate (length l.loads) (pos 0) in
      let long : length zeros ≡ length l.loads = length-replicate (length l.loads) (pos 0) in
      let one = h.value zeros long in
      parts-long (λ k part. TermMakes p tables e (z ++ k) part.0 part.1) (λ k a b s t. makes-long p tables e (z ++ k) a.0 b.0 a.1 b.1 s t) points parts one.0 all one.1
      ∙ (sym (ap length one.2) ∙ finds-long l.loads zeros long)

  module _ (most_points most_loads : ℕ) (before : Layout) (fault : ScanFault) where
    pub negation-fails : (e : Term) (z : List ℤ) → Fails p tables e z most_points most_loads before fault → Fails p tables (negation e) z most_points most_loads before fault
    negation-fails e z (inl memory) = inl memory
    negation-fails e z (inr (inl refused)) = inr (inl refused)
    negation-fails e z (inr (inr (inl many))) = inr (inr (inl many))
    negation-fails e z (inr (inr (inr many))) = inr (inr (inr (many.0, λ finds v m. many.1 finds m.0 m.1)))

    pub left-fails : (op : Op) (a b : Term) (z : List ℤ) → Fails p tables a z most_points most_loads before fault → Fails p tables (binary op a b) z most_points most_loads before fault
    left-fails op a b z (inl memory) = inl memory
    left-fails op a b z (inr (inl r)) = inr (inl (r.0, r.1, r.2, inl r.3, r.4))
    left-fails op a b z (inr (inr (inl many))) = inr (inr (inl (many.0, λ n c. let l = many.1 c.0 c.2 in omega (arith, l, c.4))))
    left-fails op a b z (inr (inr (inr many))) =
        inr (inr (inr (many.0, λ finds v m. let l = many.1 m.0 m.2 m.4 in omega (arith, l, ap length m.6, length-append m.0 m.1))))

    pub right-fails :
        (op : Op) (a b : Term) (z : List ℤ) (now : Layout) → Lays p tables a z before now → Fails p tables b z most_points most_loads now fault → Fails p tables (binary op a b) z most_points most_loads before fault
    right-fails op a b z now lays (inl memory) = inl memory
    right-fails op a b z now lays (inr (inl r)) = inr (inl (r.0, r.1, r.2, inr r.3, r.4))
    right-fails op a b z now (l, h, same) (inr (inr (inl many))) =
        inr (inr (inl (
          many.0,
          λ n c.
              let above = many.1 c.1 c.3 in
              let first = counts-once a z c.0 l.points c.2 h.points in
              omega (arith, above, first, c.4, ap (λ (q : Layout). q.points) same),
        )))
    right-fails op a b z now (l, h, same) (inr (inr (inr many))) =
        inr (inr (inr (
          many.0,
          λ finds v m.
              let above = many.1 m.1 m.3 m.5 in
              let first = laid-long a z l m.0 m.2 h m.4 in
              omega (arith, above, first, ap length m.6, length-append m.0 m.1, ap (λ (q : Layout). length q.loads) same, length-append before.loads l.loads),
        )))

    -- members of a reduction

    module _ (op : Op) (e : Term) (z : List ℤ) (all to_come rest : List (List ℤ)) (now : Layout) (k : List ℤ) (h : IsFolding p tables op e z all to_come before now) (next : to_come ≡ k ∷ rest) where
      cut : h.given ++ k ∷ rest ≡ all
      cut = ap (λ ks. h.given ++ ks) (sym next) ∙ h.whole

      points-now : now.points ≡ before.points + h.added.points
      points-now = ap (λ (q : Layout). q.points) h.laid

      loads-now : length now.loads ≡ length before.loads + length h.added.loads
      loads-now = ap (λ (q : Layout). length q.loads) h.laid ∙ length-append before.loads h.added.loads

      pub too-many : most_points ≤ now.points → fault ≡ Limit Points → FailsFold p tables e z all most_points most_loads before fault
      too-many full is = inr (inr (inl (
        is,
        λ numbers a.
            let parts = cut-at (λ q n. TermCounts e (z ++ q) n) h.given k rest numbers (subst (λ ks. AllZip (λ q n. TermCounts e (z ++ q) n) ks numbers) (sym cut) a) in
            let same = zipped-once (λ q n. TermCounts e (z ++ q) n) (λ q i j s t. counts-once e (z ++ q) i j s t) h.given parts.left h.folded.counts.0 parts.first h.folded.counts.1 in
            omega (arith, full, points-now, h.folded.counts.2, ap sum same, ap sum parts.whole, sum-cut parts.left parts.item parts.right, ap length cut, length-append h.given (k ∷ rest)),
      )))

      pub member-fails :
          (counted : Layout) (y : List ℤ) → counted ≡ with_point now → y ≡ z ++ k → Fails p tables e y most_points most_loads counted fault → FailsFold p tables e z all most_points most_loads before fault
      member-fails counted y point same (inl memory) = inl memory
      member-fails counted y point same (inr (inl r)) =
          inr (inl (k, subst (λ ks. Contains ks k) cut (Contains-append_right h.given (k ∷ rest) k (Contains-first k rest)), (r.0, r.1, r.2, subst (λ q. EvaluatesAt e q r.0 r.1 r.2) same r.3, r.4)))
      member-fails counted y point same (inr (inr (inl many))) = inr (inr (inl (
        many.0,
        λ numbers a.
            let parts = cut-at (λ q n. TermCounts e (z ++ q) n) h.given k rest numbers (subst (λ ks. AllZip (λ q n. TermCounts e (z ++ q) n) ks numbers) (sym cut) a) in
            let earlier = zipped-once (λ q n. TermCounts e (z ++ q) n) (λ q i j s t. counts-once e (z ++ q) i j s t) h.given parts.left h.folded.counts.0 parts.first h.folded.counts.1 in
            let above = many.1 parts.item (subst (λ q. TermCounts e q parts.item) (sym same) parts.here) in
            omega (arith, above, points-now, ap (λ (q : Layout). q.points) point, h.folded.counts.2, ap sum earlier, ap sum parts.whole, sum-cut parts.left parts.item parts.right, ap length cut, length-append h.given (k ∷ rest)),
      )))
      member-fails counted y point same (inr (inr (inr many))) = inr (inr (inr (
        many.0,
        λ items a.
            let parts = cut-at (λ q part. TermMakes p tables e (z ++ q) part.0 part.1) h.given k rest items (subst (λ ks. Parts p tables e z ks items) (sym cut) a) in
            let earlier = folded-long op e z h.given h.added parts.left h.folded parts.first in
            let above = many.1 parts.item.0 parts.item.1 (subst (λ q. TermMakes p tables e q parts.item.0 parts.item.1) (sym same) parts.here) in
            omega (arith, above, loads-now, ap (λ (q : Layout). length q.loads) point, earlier, ap (λ is. length (found_in is)) parts.whole, found-cut parts.left parts.item parts.right),
      )))

    module _ (op : Op) (extra : ℕ) (domain : Union) (e : Term) (z : List ℤ) where
      pub fold-fails : (points : List (List ℤ)) → AreMembers domain z extra points → FailsFold p tables e z points most_points most_loads before fault → Fails p tables (reduction op extra domain e) z most_points most_loads before fault
      fold-fails points members (inl memory) = inl memory
      fold-fails points members (inr (inl r)) =
          inr (inl (r.2.0, r.2.1, r.2.2, inr (r.0, All-Contains (IsMember domain z extra) points r.0 members.only r.1, r.2.3), r.2.4))
      fold-fails points members (inr (inr (inl many))) = inr (inr (inl (
        many.0,
        λ n c.
            let same = AreMembers-unique domain z extra c.points points c.members members in
            let above = many.1 c.counts (subst (λ ks. AllZip (λ q m. TermCounts e (z ++ q) m) ks c.counts) same c.bodies) in
            omega (arith, above, c.result, ap length same),
      )))
      fold-fails points members (inr (inr (inr many))) = inr (inr (inr (
        many.0,
        λ finds v m.
            let same = AreMembers-unique domain z extra m.points points m.members members in
            let above = many.1 m.parts (subst (λ ks. Parts p tables e z ks m.parts) same m.bodies) in
            omega (arith, above, ap length m.whole),
      )))

      pub scan-fails : Refuses domain z fault → Fails p tables (reduction op extra domain e) z most_points most_loads before fault
      scan-fails r = inr (inl (extra, domain, z, inl (record { same_extra = refl; same_domain = refl; same_outer = refl }), r))
