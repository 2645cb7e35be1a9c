-- The points that an expression loads, in order, are exactly those that it reads, and they are one list.
use Rattle.std.proofs.Common.{◌≡◌, ℕ, zero, suc, List, [], ◌∷◌, ◌++◌, refl, sym, ap, subst, ◌∙◌, arith, inl, inr, ⊎_elim}
use Rattle.std.specs.Prelude.{ℤ, Contains, flat_map}
use Rattle.std.specs.List.{AllByRecursion, AllZip}
use Rattle.std.proofs.lemmas.List.Elements.{Contains-append_left, Contains-append_right, Contains-append_cases}
use Rattle.az_lin.specs.Affine.{image_of}
use Rattle.az_ast.specs.Dependences.{Hits, TermReads, ChoiceReads, Loads, TermLoads, ChoiceLoads}
use Rattle.az_ast.specs.Points.{IsMember}
use Rattle.az_ast.specs.Term.{Term, constant, index, access, negation, binary, cases, reduction, Choices, none, choice}
use Rattle.az_ast.proofs.Members.{AreMembers-unique, Contains-first, Contains-rest, All-Contains}

-- a part that is listed beside a point has its element in the whole
module _ (P : List ℤ → Loads → Type 0) where
  part_of :
      (points : List (List ℤ)) (parts : List Loads) → AllZip P points parts → (k : List ℤ) → Contains points k → (x : ℕ × List ℤ) → ((part : Loads) → P k part → Contains part x) →
      Contains (flat_map (λ part. part) parts) x
  part_of [] parts a k (i, h, e) x f = absurd (omega arith)
  part_of (q ∷ points) [] a k c x f = absurd a
  part_of (q ∷ points) (part ∷ parts) a k (zero, h, e) x f = Contains-append_left part (flat_map (λ part. part) parts) x (f part (subst (λ r. P r part) e a.0))
  part_of (q ∷ points) (part ∷ parts) a k (suc i, h, e) x f =
      Contains-append_right part (flat_map (λ part. part) parts) x (part_of points parts a.1 k (i, omega arith, e) x f)

  -- and an element of the whole stands in a part beside some point
  point_of :
      (points : List (List ℤ)) (parts : List Loads) → AllZip P points parts → (x : ℕ × List ℤ) → Contains (flat_map (λ part. part) parts) x →
      (k : List ℤ) × Contains points k × (part : Loads) × P k part × Contains part x
  point_of [] [] a x (i, h, e) = absurd (omega arith)
  point_of [] (part ∷ parts) a x c = absurd a
  point_of (q ∷ points) [] a x c = absurd a
  point_of (q ∷ points) (part ∷ parts) a x c =
      ⊎_elim (λ here. (q, Contains-first q points, part, a.0, here))
      (λ there. let one = point_of points parts a.1 x there in (one.0, Contains-rest q points one.0 one.1, one.2, one.3, one.4))
      (Contains-append_cases part (flat_map (λ part. part) parts) x c)

  same_parts : ((k : List ℤ) (a b : Loads) → P k a → P k b → a ≡ b) → (points : List (List ℤ)) (xs ys : List Loads) → AllZip P points xs → AllZip P points ys → xs ≡ ys
  same_parts f [] [] [] g h = refl
  same_parts f [] [] (y ∷ ys) g h = absurd h
  same_parts f [] (x ∷ xs) ys g h = absurd g
  same_parts f (k ∷ points) [] ys g h = absurd g
  same_parts f (k ∷ points) (x ∷ xs) [] g h = absurd h
  same_parts f (k ∷ points) (x ∷ xs) (y ∷ ys) g h =
      let first = f k x y g.0 h.0 in
      let rest = same_parts f points xs ys g.1 h.1 in
      (λ t. first t ∷ rest t)

abbrev alone : ℕ × List ℤ → Loads
alone x = x ∷ []

nothing : (x : ℕ × List ℤ) → Contains {X = ℕ × List ℤ} [] x → ⊥
nothing x (k, h, e) = omega arith

in_alone : (y x : ℕ × List ℤ) → Contains (alone y) x → y ≡ x
in_alone y x (zero, h, e) = e
in_alone y x (suc k, h, e) = absurd (omega arith)

module _ (params x : ℕ) (l : List ℤ) where
  -- a read of point `l` of `x`, whatever the parameters
  abbrev pub Names : Hits
  Names y ps k = ◌≡◌ {A = ℕ × List ℤ} (y, k) (x, l)

  mutual
    pub read-loaded : (e : Term) (z : List ℤ) (loads : Loads) → TermLoads e z loads → TermReads params Names e z → Contains loads (x, l)
    read-loaded (constant c) z loads g r = absurd r
    read-loaded (index row) z loads g r = absurd r
    read-loaded (access y f) z loads g r = subst (λ ls. Contains ls (x, l)) (sym g) (0, omega arith, r)
    read-loaded (negation e) z loads g r = read-loaded e z loads g r
    read-loaded (binary op a b) z loads g r =
        subst (λ ls. Contains ls (x, l)) (sym g.4)
        (⊎_elim (λ s. Contains-append_left g.0 g.1 (x, l) (read-loaded a z g.0 g.2 s)) (λ s. Contains-append_right g.0 g.1 (x, l) (read-loaded b z g.1 g.3 s)) r)
    read-loaded (cases branches) z loads g r = read-choice branches z loads g r
    read-loaded (reduction op extra domain e) z loads g r =
        subst (λ ls. Contains ls (x, l)) (sym g.result)
        (part_of (λ k part. TermLoads e (z ++ k) part) g.points g.parts g.bodies r.0 (g.members.every r.0 r.1) (x, l) (λ part h. read-loaded e (z ++ r.0) part h r.2))

    read-choice : (branches : Choices) (z : List ℤ) (loads : Loads) → ChoiceLoads branches z loads → ChoiceReads params Names branches z → Contains loads (x, l)
    read-choice none z loads g r = absurd g
    read-choice (choice domain e rest) z loads g r =
        ⊎_elim
        (λ here. ⊎_elim (λ s. read-loaded e z loads here.1 s.1) (λ s. absurd (s.0 here.0)) r)
        (λ there. ⊎_elim (λ s. absurd (there.0 s.0)) (λ s. read-choice rest z loads there.1 s.1) r) g

  mutual
    pub loaded-read : (e : Term) (z : List ℤ) (loads : Loads) → TermLoads e z loads → Contains loads (x, l) → TermReads params Names e z
    loaded-read (constant c) z loads g h = nothing (x, l) (subst (λ ls. Contains ls (x, l)) g h)
    loaded-read (index row) z loads g h = nothing (x, l) (subst (λ ls. Contains ls (x, l)) g h)
    loaded-read (access y f) z loads g h = in_alone (y, image_of f z) (x, l) (subst (λ ls. Contains ls (x, l)) g h)
    loaded-read (negation e) z loads g h = loaded-read e z loads g h
    loaded-read (binary op a b) z loads g h =
        ⊎_elim (λ s. inl (loaded-read a z g.0 g.2 s)) (λ s. inr (loaded-read b z g.1 g.3 s))
        (Contains-append_cases g.0 g.1 (x, l) (subst (λ ls. Contains ls (x, l)) g.4 h))
    loaded-read (cases branches) z loads g h = loaded-choice branches z loads g h
    loaded-read (reduction op extra domain e) z loads g h =
        let one = point_of (λ k part. TermLoads e (z ++ k) part) g.points g.parts g.bodies (x, l) (subst (λ ls. Contains ls (x, l)) g.result h) in
        (one.0, member g.points g.members.only one.0 one.1, loaded-read e (z ++ one.0) one.2 one.3 one.4)
      where
        member : (points : List (List ℤ)) → AllByRecursion (IsMember domain z extra) points → (k : List ℤ) → Contains points k → IsMember domain z extra k
        member points a k c = All-Contains (IsMember domain z extra) points k a c

    loaded-choice : (branches : Choices) (z : List ℤ) (loads : Loads) → ChoiceLoads branches z loads → Contains loads (x, l) → ChoiceReads params Names branches z
    loaded-choice none z loads g h = absurd g
    loaded-choice (choice domain e rest) z loads g h =
        ⊎_elim (λ here. inl (here.0, loaded-read e z loads here.1 h)) (λ there. inr (there.0, loaded-choice rest z loads there.1 h)) g

mutual
  pub TermLoads-unique : (e : Term) (z : List ℤ) (a b : Loads) → TermLoads e z a → TermLoads e z b → a ≡ b
  TermLoads-unique (constant c) z a b g h = g ∙ sym h
  TermLoads-unique (index row) z a b g h = g ∙ sym h
  TermLoads-unique (access x f) z a b g h = g ∙ sym h
  TermLoads-unique (negation e) z a b g h = TermLoads-unique e z a b g h
  TermLoads-unique (binary op e f) z a b g h =
      let left = TermLoads-unique e z g.0 h.0 g.2 h.2 in
      let right = TermLoads-unique f z g.1 h.1 g.3 h.3 in
      g.4 ∙ ((λ i. left i ++ right i) ∙ sym h.4)
  TermLoads-unique (cases branches) z a b g h = ChoiceLoads-unique branches z a b g h
  TermLoads-unique (reduction op extra domain e) z a b g h =
      let same = AreMembers-unique domain z extra g.points h.points g.members h.members in
      let bodies = subst (λ ps. AllZip (λ k part. TermLoads e (z ++ k) part) ps h.parts) (sym same) h.bodies in
      let parts = same_parts (λ k part. TermLoads e (z ++ k) part) (λ k c d i j. TermLoads-unique e (z ++ k) c d i j) g.points g.parts h.parts g.bodies bodies in
      g.result ∙ (ap (flat_map (λ part. part)) parts ∙ sym h.result)

  ChoiceLoads-unique : (branches : Choices) (z : List ℤ) (a b : Loads) → ChoiceLoads branches z a → ChoiceLoads branches z b → a ≡ b
  ChoiceLoads-unique none z a b g h = absurd g
  ChoiceLoads-unique (choice domain e rest) z a b g h =
      ⊎_elim
      (λ s. ⊎_elim (λ t. TermLoads-unique e z a b s.1 t.1) (λ t. absurd (t.0 s.0)) h)
      (λ s. ⊎_elim (λ t. absurd (s.0 t.0)) (λ t. ChoiceLoads-unique rest z a b s.1 t.1) h) g
