-- The fixed point of meaning. A variable means what its read has, where reads have meanings; and the
-- meanings are the least such relation. With these laws depths need not appear again.
use Rattle.std.proofs.Common.{◌≡◌, ℕ, zero, suc, ◌+◌, ◌≤◌, List, [], ◌∷◌, ◌++◌, length, Some, None, Option, refl, arith, inl, inr, ⊎_elim}
use Rattle.std.specs.Prelude.{ℤ, slice_get, MatchOption}
use Rattle.std.specs.List.{AllZip}
use Rattle.az_ast.specs.declared.program.Role.{Role}
use Rattle.az_ast.specs.declared.program.Role.TheVariants.{Input, Output, Local}
use Rattle.az_ast.specs.declared.program.Equation.{Equation}
use Rattle.az_ast.specs.declared.program.Variable.{Variable}
use Rattle.az_ast.specs.Meaning.{Values, Reads, TermGives, ChoiceGives, RoleGives, IsInput, ReadGives, equation_of, body_of, ValueBelow, ValueTo, ReadTo, Means}
use Rattle.az_ast.specs.Points.{IsPointOf}
use Rattle.az_ast.specs.System.{System}
use Rattle.az_ast.specs.Tables.{Tables, InputGives}
use Rattle.az_ast.specs.Term.{Term, constant, index, access, negation, binary, cases, reduction, Choices, none, choice, term}
use Rattle.az_ast.proofs.ReadLemmas.{input-gives, gives-input, body-gives, gives-body}
use Rattle.az_ast.proofs.Laws.{TermGives-more, ReadGives-more, ReadTo-more}

-- the meanings as what reads have, and the values of expressions over given reads
abbrev pub Meant : System → Tables → Reads
Meant p tables x params k v = Means p tables params x k v

abbrev pub With : System → Reads → Term → Values
With p reads e z v = TermGives (length p.params) reads e z v

-- ---- a value over what is had at some depth is had at one depth

module _ (params : ℕ) (at : ℕ → Reads) (rises : (m n : ℕ) → m ≤ n → (x : ℕ) (ps k : List ℤ) (v : ℤ) → at m x ps k v → at n x ps k v) where
  abbrev some : Reads
  some x ps k v = (depth : ℕ) × at depth x ps k v

  greater : (m n : ℕ) → m ≤ n → (e : Term) (z : List ℤ) (v : ℤ) → TermGives params (at m) e z v → TermGives params (at n) e z v
  greater m n h e z v g = TermGives-more params (at m) (at n) (λ x ps k w r. rises m n h x ps k w r) e z v g

  -- the bodies of a reduction, at one depth
  together :
      (e : Term) (z : List ℤ) → ((y : List ℤ) (w : ℤ) → TermGives params some e y w → (depth : ℕ) × TermGives params (at depth) e y w) →
      (points : List (List ℤ)) (values : List ℤ) → AllZip (λ k w. TermGives params some e (z ++ k) w) points values →
      (depth : ℕ) × AllZip (λ k w. TermGives params (at depth) e (z ++ k) w) points values
  together e z one [] [] h = (0, tt)
  together e z one [] (w ∷ values) h = absurd h
  together e z one (k ∷ points) [] h = absurd h
  together e z one (k ∷ points) (w ∷ values) h =
      let first = one (z ++ k) w h.0 in
      let rest = together e z one points values h.1 in
      (first.0 + rest.0, (greater first.0 (first.0 + rest.0) (omega arith) e (z ++ k) w first.1, raised rest.0 (first.0 + rest.0) (omega arith) points values rest.1))
    where
      raised : (m n : ℕ) → m ≤ n → (points : List (List ℤ)) (values : List ℤ) → AllZip (λ k w. TermGives params (at m) e (z ++ k) w) points values → AllZip (λ k w. TermGives params (at n) e (z ++ k) w) points values
      raised m n h [] [] a = a
      raised m n h [] (w ∷ values) a = a
      raised m n h (k ∷ points) [] a = a
      raised m n h (k ∷ points) (w ∷ values) a = (greater m n h e (z ++ k) w a.0, raised m n h points values a.1)

  mutual
    pub TermGives-depth : (e : Term) (z : List ℤ) (v : ℤ) → TermGives params some e z v → (depth : ℕ) × TermGives params (at depth) e z v
    TermGives-depth (constant c) z v g = (0, g)
    TermGives-depth (index row) z v g = (0, g)
    TermGives-depth (access x f) z v g = g
    TermGives-depth (negation e) z v g = let one = TermGives-depth e z g.0 g.1 in (one.0, (g.0, one.1, g.2))
    TermGives-depth (binary op a b) z v g =
        let left = TermGives-depth a z g.0 g.2 in
        let right = TermGives-depth b z g.1 g.3 in
        (left.0 + right.0, (g.0, g.1, greater left.0 (left.0 + right.0) (omega arith) a z g.0 left.1, greater right.0 (left.0 + right.0) (omega arith) b z g.1 right.1, g.4))
    TermGives-depth (cases branches) z v g = ChoiceGives-depth branches z v g
    TermGives-depth (reduction op extra domain e) z v g =
        let all = together e z (λ y w h. TermGives-depth e y w h) g.points g.values g.bodies in
        (all.0, record { points = g.points; values = g.values; members = g.members; bodies = all.1; result = g.result })

    ChoiceGives-depth : (branches : Choices) (z : List ℤ) (v : ℤ) → ChoiceGives params some branches z v → (depth : ℕ) × ChoiceGives params (at depth) branches z v
    ChoiceGives-depth none z v g = absurd g
    ChoiceGives-depth (choice domain e rest) z v g =
        ⊎_elim
        (λ here. let one = TermGives-depth e z v here.1 in (one.0, inl (here.0, one.1)))
        (λ there. let one = ChoiceGives-depth rest z v there.1 in (one.0, inr (there.0, one.1))) g

-- a fact on a body that is had at some depth
MatchOption-some : {A : Type 0} (P : A → Type 0) (Q : ℕ → A → Type 0) (o : Option A) → ((x : A) → P x → (depth : ℕ) × Q depth x) → MatchOption o ⊥ P → (depth : ℕ) × MatchOption o ⊥ (Q depth)
MatchOption-some P Q None f h = absurd h
MatchOption-some P Q (Some x) f h = f x h

RoleGives-some : (role : Role) (A B : Type 0) (C : ℕ → Type 0) → (B → (depth : ℕ) × C depth) → RoleGives role A B → (depth : ℕ) × RoleGives role A (C depth)
RoleGives-some Input A B C f g = (0, g)
RoleGives-some Output A B C f g = f g
RoleGives-some Local A B C f g = f g

module _ (p : System) (tables : Tables) where
  -- ---- an expression has a value over the meanings of its reads exactly if it has one to some depth

  pub value-from_meanings : (e : Term) (z : List ℤ) (v : ℤ) → With p (Meant p tables) e z v → (depth : ℕ) × ValueTo p tables depth e z v
  value-from_meanings e z v g = TermGives-depth (length p.params) (λ depth. ReadTo p tables depth) (λ m n h x ps k w r. ReadTo-more p tables m n h x ps k w r) e z v g

  pub meanings-from_value : (depth : ℕ) (e : Term) (z : List ℤ) (v : ℤ) → ValueTo p tables depth e z v → With p (Meant p tables) e z v
  meanings-from_value depth e z v g = TermGives-more (length p.params) (ReadTo p tables depth) (Meant p tables) (λ x ps k w r. (depth, r)) e z v g

  below_meanings : (depth : ℕ) (e : Term) (z : List ℤ) (v : ℤ) → ValueBelow p tables depth e z v → With p (Meant p tables) e z v
  below_meanings zero e z v g = absurd g
  below_meanings (suc depth) e z v g = meanings-from_value depth e z v g

  -- ---- the three laws

  pub Means-open : (params : List ℤ) (x : ℕ) (k : List ℤ) (v : ℤ) → Means p tables params x k v → ReadGives p tables (With p (Meant p tables)) x params k v
  Means-open params x k v m = ReadGives-more p tables (ValueBelow p tables m.0) (With p (Meant p tables)) (below_meanings m.0) x params k v m.1

  pub Means-close : (params : List ℤ) (x : ℕ) (k : List ℤ) (v : ℤ) → ReadGives p tables (With p (Meant p tables)) x params k v → Means p tables params x k v
  Means-close params x k v g =
      MatchOption-some
      (λ variable. IsPointOf (length p.params) variable.domain params k × RoleGives variable.role (InputGives tables x k v) (MatchOption (body_of p.equations x) ⊥ (λ body. With p (Meant p tables) body (params ++ k) v)))
      (λ depth variable. IsPointOf (length p.params) variable.domain params k × RoleGives variable.role (InputGives tables x k v) (MatchOption (body_of p.equations x) ⊥ (λ body. ValueBelow p tables depth body (params ++ k) v)))
      (slice_get p.variables x) (λ variable h. of_role variable h) g
    where
      of_body : (body : Term) → With p (Meant p tables) body (params ++ k) v → (depth : ℕ) × ValueBelow p tables depth body (params ++ k) v
      of_body body h = let one = value-from_meanings body (params ++ k) v h in (suc one.0, one.1)

      of_role : (variable : Variable) →
          IsPointOf (length p.params) variable.domain params k × RoleGives variable.role (InputGives tables x k v) (MatchOption (body_of p.equations x) ⊥ (λ body. With p (Meant p tables) body (params ++ k) v)) →
          (depth : ℕ) × (IsPointOf (length p.params) variable.domain params k × RoleGives variable.role (InputGives tables x k v) (MatchOption (body_of p.equations x) ⊥ (λ body. ValueBelow p tables depth body (params ++ k) v)))
      of_role variable h =
          let one = RoleGives-some variable.role (InputGives tables x k v) _ (λ depth. MatchOption (body_of p.equations x) ⊥ (λ body. ValueBelow p tables depth body (params ++ k) v))
          (λ b. MatchOption-some (λ body. With p (Meant p tables) body (params ++ k) v) (λ depth body. ValueBelow p tables depth body (params ++ k) v) (body_of p.equations x) of_body b) h.1 in
          (one.0, (h.0, one.1))

  -- whatever reads are closed under the equations have the meanings
  module _ (reads : Reads) (closed : (x : ℕ) (params k : List ℤ) (v : ℤ) → ReadGives p tables (With p reads) x params k v → reads x params k v) where
    below_reads : (depth : ℕ) (e : Term) (z : List ℤ) (v : ℤ) → ValueBelow p tables depth e z v → With p reads e z v
    below_reads zero e z v g = absurd g
    below_reads (suc depth) e z v g =
        TermGives-more (length p.params) (ReadTo p tables depth) reads
        (λ x ps k w r. closed x ps k w (ReadGives-more p tables (ValueBelow p tables depth) (With p reads) (below_reads depth) x ps k w r)) e z v g

    pub Means-least : (params : List ℤ) (x : ℕ) (k : List ℤ) (v : ℤ) → Means p tables params x k v → reads x params k v
    Means-least params x k v m = closed x params k v (ReadGives-more p tables (ValueBelow p tables m.0) (With p reads) (below_reads m.0) x params k v m.1)

  -- a meaning stands at a point of its variable alone
  pub Means-point : (params : List ℤ) (x : ℕ) (k : List ℤ) (v : ℤ) → Means p tables params x k v → (variable : Variable) × (slice_get p.variables x ≡ Some variable) × IsPointOf (length p.params) variable.domain params k
  Means-point params x k v m = by (slice_get p.variables x) refl m.1
    where
      by : (o : Option Variable) → slice_get p.variables x ≡ o →
          MatchOption o ⊥ (λ variable. IsPointOf (length p.params) variable.domain params k × RoleGives variable.role (InputGives tables x k v) (MatchOption (body_of p.equations x) ⊥ (λ body. ValueBelow p tables m.0 body (params ++ k) v))) →
          (variable : Variable) × (slice_get p.variables x ≡ Some variable) × IsPointOf (length p.params) variable.domain params k
      by None e h = absurd h
      by (Some variable) e h = (variable, e, h.0)

  -- what a declared variable means: an input what its table gives, and any other what its equation's body
  -- has over the meanings
  module _ (x : ℕ) (variable : Variable) (declared : slice_get p.variables x ≡ Some variable) (params k : List ℤ) (v : ℤ) where
    pub input-means : IsInput variable.role → IsPointOf (length p.params) variable.domain params k → InputGives tables x k v → Means p tables params x k v
    input-means i h g = Means-close params x k v (input-gives p tables x variable declared params k (With p (Meant p tables)) v i h g)

    pub means-input : IsInput variable.role → Means p tables params x k v → InputGives tables x k v
    means-input i m = gives-input p tables x variable declared params k (With p (Meant p tables)) v i (Means-open params x k v m)

    module _ (equation : Equation) (no_input : IsInput variable.role → ⊥) (found : equation_of p.equations x ≡ Some equation) where
      pub body-means : IsPointOf (length p.params) variable.domain params k → With p (Meant p tables) (term equation.body) (params ++ k) v → Means p tables params x k v
      body-means h g = Means-close params x k v (body-gives p tables x variable declared params k equation no_input found (With p (Meant p tables)) v h g)

      pub means-body : Means p tables params x k v → With p (Meant p tables) (term equation.body) (params ++ k) v
      means-body m = gives-body p tables x variable declared params k equation no_input found (With p (Meant p tables)) v (Means-open params x k v m)
