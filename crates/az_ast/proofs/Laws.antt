-- The laws of the meaning: a value at some depth stays at every greater depth, the meaning is unique, and
-- equal programs have equal meanings.
use Rattle.std.proofs.Common.{◌≡◌, ℕ, zero, suc, ◌+◌, ◌≤◌, ◌-◌, List, [], ◌∷◌, ◌++◌, length, Some, None, Option, refl, sym, ap, subst, ◌∙◌, arith, inl, inr, ⊎_elim}
use Rattle.std.specs.Prelude.{ℤ, pos, slice_get, MatchOption, fold}
use Rattle.std.specs.List.{AllZip}
use Rattle.std.specs.FinMap.{get}
use Rattle.az_lin.specs.Affine.{Union}
use Rattle.az_ast.specs.declared.op.Op.{Op}
use Rattle.az_ast.specs.declared.op.Op.TheVariants.{Sub}
use Rattle.az_ast.specs.declared.program.Role.{Role}
use Rattle.az_ast.specs.declared.program.Role.TheVariants.{Input, Output, Local}
use Rattle.az_ast.specs.Meaning.{Values, Reads, FoldGives, TermGives, ChoiceGives, RoleGives, ReadGives, body_of, ValueBelow, ValueTo, ReadTo, Means}
use Rattle.az_ast.specs.Operators.{applied, identity}
use Rattle.az_ast.specs.Points.{IsPointOf}
use Rattle.az_ast.specs.System.{System}
use Rattle.az_ast.specs.Tables.{Tables, TableGives, InputGives}
use Rattle.az_ast.specs.Term.{Term, constant, index, access, negation, binary, cases, reduction, Choices, none, choice}
use Rattle.az_ast.proofs.Members.{AreMembers-unique}
use Rattle.az_ast.proofs.TableLemmas.{TableGives-unique}

MatchOption-map : {A : Type 0} (P Q : A → Type 0) (o : Option A) → ((x : A) → P x → Q x) → MatchOption o ⊥ P → MatchOption o ⊥ Q
MatchOption-map P Q None f h = h
MatchOption-map P Q (Some x) f h = f x h

AllZip-map : {A B : Type 0} (P Q : A → B → Type 0) → ((a : A) (b : B) → P a b → Q a b) → (xs : List A) (ys : List B) → AllZip P xs ys → AllZip Q xs ys
AllZip-map P Q f [] [] h = h
AllZip-map P Q f [] (y ∷ ys) h = h
AllZip-map P Q f (x ∷ xs) [] h = h
AllZip-map P Q f (x ∷ xs) (y ∷ ys) h = (f x y h.0, AllZip-map P Q f xs ys h.1)

AllZip-unique : {A B : Type 0} (P : A → B → Type 0) → ((a : A) (b c : B) → P a b → P a c → b ≡ c) → (xs : List A) (ys zs : List B) → AllZip P xs ys → AllZip P xs zs → ys ≡ zs
AllZip-unique P f [] [] [] g h = refl
AllZip-unique P f [] [] (z ∷ zs) g h = absurd h
AllZip-unique P f [] (y ∷ ys) zs g h = absurd g
AllZip-unique P f (x ∷ xs) [] zs g h = absurd g
AllZip-unique P f (x ∷ xs) (y ∷ ys) [] g h = absurd h
AllZip-unique P f (x ∷ xs) (y ∷ ys) (z ∷ zs) g h =
    let first = f x y z g.0 h.0 in
    let rest = AllZip-unique P f xs ys zs g.1 h.1 in
    (λ t. first t ∷ rest t)

-- ---- more reads give more

module _ (params : ℕ) (reads more : Reads) (f : (x : ℕ) (p k : List ℤ) (v : ℤ) → reads x p k v → more x p k v) where
  mutual
    pub TermGives-more : (e : Term) (z : List ℤ) (v : ℤ) → TermGives params reads e z v → TermGives params more e z v
    TermGives-more (constant c) z v g = g
    TermGives-more (index row) z v g = g
    TermGives-more (access x m) z v g = f x _ _ v g
    TermGives-more (negation e) z v g = (g.0, TermGives-more e z g.0 g.1, g.2)
    TermGives-more (binary op a b) z v g = (g.0, g.1, TermGives-more a z g.0 g.2, TermGives-more b z g.1 g.3, g.4)
    TermGives-more (cases branches) z v g = ChoiceGives-more branches z v g
    TermGives-more (reduction op extra domain e) z v g =
        record {
          points = g.points;
          values = g.values;
          members = g.members;
          bodies = AllZip-map _ _ (λ k w h. TermGives-more e (z ++ k) w h) g.points g.values g.bodies;
          result = g.result;
        }

    pub ChoiceGives-more : (branches : Choices) (z : List ℤ) (v : ℤ) → ChoiceGives params reads branches z v → ChoiceGives params more branches z v
    ChoiceGives-more none z v g = g
    ChoiceGives-more (choice domain e rest) z v g =
        ⊎_elim (λ here. inl (here.0, TermGives-more e z v here.1)) (λ there. inr (there.0, ChoiceGives-more rest z v there.1)) g

RoleGives-map : (role : Role) (A B C : Type 0) → (B → C) → RoleGives role A B → RoleGives role A C
RoleGives-map Input A B C f g = g
RoleGives-map Output A B C f g = f g
RoleGives-map Local A B C f g = f g

module _ (p : System) (tables : Tables) where
  pub ReadGives-more : (bodies more : Term → Values) → ((e : Term) (z : List ℤ) (v : ℤ) → bodies e z v → more e z v) → (x : ℕ) (params k : List ℤ) (v : ℤ) →
      ReadGives p tables bodies x params k v → ReadGives p tables more x params k v
  ReadGives-more bodies more f x params k v g =
      MatchOption-map _ _ (slice_get p.variables x) (λ variable h. (h.0, RoleGives-map variable.role _ _ _ (λ b. MatchOption-map _ _ (body_of p.equations x) (λ e r. f e (params ++ k) v r) b) h.1)) g

  pub ValueBelow-suc : (depth : ℕ) (e : Term) (z : List ℤ) (v : ℤ) → ValueBelow p tables depth e z v → ValueBelow p tables (suc depth) e z v
  ValueBelow-suc zero e z v g = absurd g
  ValueBelow-suc (suc depth) e z v g =
      TermGives-more (length p.params) _ _ (λ x params k w h. ReadGives-more (ValueBelow p tables depth) (ValueBelow p tables (suc depth)) (ValueBelow-suc depth) x params k w h) e z v g

  ValueBelow-add : (depth more : ℕ) (e : Term) (z : List ℤ) (v : ℤ) → ValueBelow p tables depth e z v → ValueBelow p tables (more + depth) e z v
  ValueBelow-add depth zero e z v g = let n : depth ≡ zero + depth = omega arith in subst (λ d. ValueBelow p tables d e z v) n g
  ValueBelow-add depth (suc more) e z v g =
      let n : suc (more + depth) ≡ suc more + depth = omega arith in
      subst (λ d. ValueBelow p tables d e z v) n (ValueBelow-suc (more + depth) e z v (ValueBelow-add depth more e z v g))

  ValueBelow-more : (depth greater : ℕ) → depth ≤ greater → (e : Term) (z : List ℤ) (v : ℤ) → ValueBelow p tables depth e z v → ValueBelow p tables greater e z v
  ValueBelow-more depth greater h e z v g =
      let n : (greater - depth) + depth ≡ greater = omega arith in
      subst (λ d. ValueBelow p tables d e z v) n (ValueBelow-add depth (greater - depth) e z v g)

  -- a read, and an expression, keeps its value at every greater depth
  pub ReadTo-more : (depth greater : ℕ) → depth ≤ greater → (x : ℕ) (params k : List ℤ) (v : ℤ) → ReadTo p tables depth x params k v → ReadTo p tables greater x params k v
  ReadTo-more depth greater h = ReadGives-more (ValueBelow p tables depth) (ValueBelow p tables greater) (ValueBelow-more depth greater h)

  pub ValueTo-more : (depth greater : ℕ) → depth ≤ greater → (e : Term) (z : List ℤ) (v : ℤ) → ValueTo p tables depth e z v → ValueTo p tables greater e z v
  ValueTo-more depth greater h e z v g =
      TermGives-more (length p.params) (ReadTo p tables depth) (ReadTo p tables greater) (λ x params k w r. ReadTo-more depth greater h x params k w r) e z v g

-- ---- where reads have one value, expressions have

module _ (params : ℕ) (reads : Reads) (f : (x : ℕ) (p k : List ℤ) (v w : ℤ) → reads x p k v → reads x p k w → v ≡ w) where
  same_fold : (op : Op) (domain : Union) (extra : ℕ) (body : Values) (z : List ℤ) (v w : ℤ) → ((k : List ℤ) (a b : ℤ) → body (z ++ k) a → body (z ++ k) b → a ≡ b) →
      FoldGives op extra domain body z v → FoldGives op extra domain body z w → v ≡ w
  same_fold op domain extra body z v w one g h =
      let points : g.points ≡ h.points = AreMembers-unique domain z extra g.points h.points g.members h.members in
      let bodies : AllZip (λ k a. body (z ++ k) a) h.points g.values = subst (λ ps. AllZip (λ k a. body (z ++ k) a) ps g.values) points g.bodies in
      let values : g.values ≡ h.values = AllZip-unique _ one h.points g.values h.values bodies h.bodies in
      g.result ∙ (ap (fold (applied op) (identity op)) values ∙ sym h.result)

  mutual
    pub TermGives-unique : (e : Term) (z : List ℤ) (v w : ℤ) → TermGives params reads e z v → TermGives params reads e z w → v ≡ w
    TermGives-unique (constant c) z v w g h = g ∙ sym h
    TermGives-unique (index row) z v w g h = g ∙ sym h
    TermGives-unique (access x m) z v w g h = f x _ _ v w g h
    TermGives-unique (negation e) z v w g h = g.2 ∙ (ap (applied Sub (pos 0)) (TermGives-unique e z g.0 h.0 g.1 h.1) ∙ sym h.2)
    TermGives-unique (binary op a b) z v w g h =
        g.4 ∙ (ap (λ x. applied op x g.1) (TermGives-unique a z g.0 h.0 g.2 h.2) ∙ (ap (λ y. applied op h.0 y) (TermGives-unique b z g.1 h.1 g.3 h.3) ∙ sym h.4))
    TermGives-unique (cases branches) z v w g h = ChoiceGives-unique branches z v w g h
    TermGives-unique (reduction op extra domain e) z v w g h =
        same_fold op domain extra (λ y u. TermGives params reads e y u) z v w (λ k a b i j. TermGives-unique e (z ++ k) a b i j) g h

    pub ChoiceGives-unique : (branches : Choices) (z : List ℤ) (v w : ℤ) → ChoiceGives params reads branches z v → ChoiceGives params reads branches z w → v ≡ w
    ChoiceGives-unique none z v w g h = absurd g
    ChoiceGives-unique (choice domain e rest) z v w g h =
        ⊎_elim
        (λ a. ⊎_elim (λ b. TermGives-unique e z v w a.1 b.1) (λ b. absurd (b.0 a.0)) h)
        (λ a. ⊎_elim (λ b. absurd (a.0 b.0)) (λ b. ChoiceGives-unique rest z v w a.1 b.1) h) g

MatchOption-unique : {A : Type 0} (P : A → ℤ → Type 0) (o : Option A) (v w : ℤ) → ((x : A) → P x v → P x w → v ≡ w) → MatchOption o ⊥ (λ x. P x v) → MatchOption o ⊥ (λ x. P x w) → v ≡ w
MatchOption-unique P None v w f g h = absurd g
MatchOption-unique P (Some x) v w f g h = f x g h

RoleGives-unique : (role : Role) (A B C D : Type 0) (v w : ℤ) → (A → C → v ≡ w) → (B → D → v ≡ w) → RoleGives role A B → RoleGives role C D → v ≡ w
RoleGives-unique Input A B C D v w f k g h = f g h
RoleGives-unique Output A B C D v w f k g h = k g h
RoleGives-unique Local A B C D v w f k g h = k g h

module _ (p : System) (tables : Tables) where
  ReadGives-unique : (bodies : Term → Values) → ((e : Term) (z : List ℤ) (v w : ℤ) → bodies e z v → bodies e z w → v ≡ w) → (x : ℕ) (params k : List ℤ) (v w : ℤ) →
      ReadGives p tables bodies x params k v → ReadGives p tables bodies x params k w → v ≡ w
  ReadGives-unique bodies one x params k v w g h =
      MatchOption-unique
      (λ variable u. IsPointOf (length p.params) variable.domain params k × RoleGives variable.role (InputGives tables x k u) (MatchOption (body_of p.equations x) ⊥ (λ body. bodies body (params ++ k) u)))
      (slice_get p.variables x) v w
      (λ variable a b. RoleGives-unique variable.role _ _ _ _ v w
      (λ i j. MatchOption-unique (λ rows u. TableGives rows k u) (get tables x) v w (λ rows r s. TableGives-unique rows k v w r s) i j)
      (λ i j. MatchOption-unique (λ body u. bodies body (params ++ k) u) (body_of p.equations x) v w (λ body r s. one body (params ++ k) v w r s) i j)
      a.1 b.1) g h

  ValueBelow-unique : (depth : ℕ) (e : Term) (z : List ℤ) (v w : ℤ) → ValueBelow p tables depth e z v → ValueBelow p tables depth e z w → v ≡ w
  ValueBelow-unique zero e z v w g h = absurd g
  ValueBelow-unique (suc depth) e z v w g h =
      TermGives-unique (length p.params) _ (λ x params k a b i j. ReadGives-unique (ValueBelow p tables depth) (ValueBelow-unique depth) x params k a b i j) e z v w g h

  -- at one depth, and at all together, there is one value at most
  pub ReadTo-unique : (depth x : ℕ) (params k : List ℤ) (v w : ℤ) → ReadTo p tables depth x params k v → ReadTo p tables depth x params k w → v ≡ w
  ReadTo-unique depth = ReadGives-unique (ValueBelow p tables depth) (ValueBelow-unique depth)

  pub ValueTo-unique : (depth : ℕ) (e : Term) (z : List ℤ) (v w : ℤ) → ValueTo p tables depth e z v → ValueTo p tables depth e z w → v ≡ w
  ValueTo-unique depth e z v w g h =
      TermGives-unique (length p.params) (ReadTo p tables depth) (λ x params k a b i j. ReadTo-unique depth x params k a b i j) e z v w g h

  pub Means-unique : (params : List ℤ) (x : ℕ) (k : List ℤ) (v w : ℤ) → Means p tables params x k v → Means p tables params x k w → v ≡ w
  Means-unique params x k v w g h =
      ReadTo-unique (g.0 + h.0) x params k v w
      (ReadTo-more p tables g.0 (g.0 + h.0) (omega arith) x params k v g.1)
      (ReadTo-more p tables h.0 (g.0 + h.0) (omega arith) x params k w h.1)

-- equal programs mean the same
pub Means-same : (p q : System) (tables : Tables) (params : List ℤ) (x : ℕ) (k : List ℤ) (v : ℤ) → p ≡ q → Means p tables params x k v → Means q tables params x k v
Means-same p q tables params x k v e g = subst (λ s. Means s tables params x k v) e g
