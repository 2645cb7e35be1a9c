-- Two programs of which points of the one go to points of the other, each variable under a number of its own: if
-- what reads give goes over in one step, then meanings go over. The parameters and the tables stay.
use Rattle.std.proofs.Common.{◌≡◌, ℕ, List, ◌++◌, length, Option, Some, None, refl, sym, subst}
use Rattle.std.specs.Prelude.{ℤ, slice_get, MatchOption}
use Rattle.az_ast.proofs.FixedPoint.{Meant, With, Means-open, Means-close, Means-least}
use Rattle.az_ast.proofs.ReadLemmas.{MatchOption-at, at-MatchOption, RoleGives-body, RoleGives-from_body}
use Rattle.az_ast.specs.Meaning.{Values, Reads, RoleGives, IsInput, ReadGives, body_of, Means}
use Rattle.az_ast.specs.Points.{IsPointOf}
use Rattle.az_ast.specs.System.{System}
use Rattle.az_ast.specs.Tables.{Tables, InputGives}
use Rattle.az_ast.specs.Term.{Term}
use Rattle.az_ast.specs.declared.program.Role.{Role}
use Rattle.az_ast.specs.declared.program.Role.TheVariants.{Input, Output, Local}
use Rattle.az_ast.specs.declared.program.Variable.{Variable}

-- one read, which goes over to one of a variable of the same role; the table of an input, and the body of any other
-- variable, give at the point there what they gave here
module _ (p q : System) (tables : Tables) (bodies more : Term → Values) (x : ℕ) (ps k : List ℤ) (y : ℕ) (l : List ℤ) (v : ℤ) where
  abbrev Here : Variable → Type 0
  Here u = (slice_get p.variables x ≡ Some u) × IsPointOf (length p.params) u.domain ps k

  abbrev Table : Type 0
  Table = InputGives tables x k v

  abbrev Body : Type 0
  Body = MatchOption (body_of p.equations x) ⊥ (λ e. bodies e (ps ++ k) v)

  abbrev OtherTable : Type 0
  OtherTable = InputGives tables y l v

  abbrev OtherBody : Type 0
  OtherBody = MatchOption (body_of q.equations y) ⊥ (λ f. more f (ps ++ l) v)

  pub read_moved :
      ((u : Variable) → Here u → (w : Variable) × (slice_get q.variables y ≡ Some w) × (u.role ≡ w.role) × IsPointOf (length q.params) w.domain ps l) →
      ((u : Variable) → Here u → IsInput u.role → InputGives tables x k v → InputGives tables y l v) →
      ((u : Variable) → Here u → (IsInput u.role → ⊥) → (e : Term) → body_of p.equations x ≡ Some e → (f : Term) × (body_of q.equations y ≡ Some f) × (bodies e (ps ++ k) v → more f (ps ++ l) v)) →
      ReadGives p tables bodies x ps k v → ReadGives q tables more y ps l v
  read_moved variable input body g = by (slice_get p.variables x) refl g
    where
      of_body : (u : Variable) → Here u → (IsInput u.role → ⊥) → (o : Option Term) → body_of p.equations x ≡ o → MatchOption o ⊥ (λ e. bodies e (ps ++ k) v) → OtherBody
      of_body u here writes None e b = absurd b
      of_body u here writes (Some t) e b = let one = body u here writes t e in at-MatchOption (λ f. more f (ps ++ l) v) (body_of q.equations y) one.0 one.1 (one.2 b)

      of_role : (u : Variable) → Here u → (role : Role) → u.role ≡ role → RoleGives role Table Body → RoleGives role OtherTable OtherBody
      of_role u here Input is r = input u here (subst IsInput (sym is) tt) r
      of_role u here Output is r = of_body u here (λ i. subst IsInput is i) (body_of p.equations x) refl r
      of_role u here Local is r = of_body u here (λ i. subst IsInput is i) (body_of p.equations x) refl r

      by : (o : Option Variable) → slice_get p.variables x ≡ o → MatchOption o ⊥ (λ u. IsPointOf (length p.params) u.domain ps k × RoleGives u.role Table Body) → ReadGives q tables more y ps l v
      by None e h = absurd h
      by (Some u) e h =
          let there = variable u (e, h.0) in
          at-MatchOption (λ w. IsPointOf (length q.params) w.domain ps l × RoleGives w.role OtherTable OtherBody) (slice_get q.variables y) there.0 there.1
          (there.3, subst (λ role. RoleGives role OtherTable OtherBody) there.2 (of_role u (e, h.0) u.role refl h.1))

-- where points go
module _ (p q : System) (tables : Tables) (number : ℕ → ℕ) (moved : ℕ → List ℤ → List ℤ → List ℤ) (Allowed : ℕ → List ℤ → List ℤ → Type 0) where
  -- what is carried over to the other program
  abbrev pub Carried : Reads
  Carried x ps k v = Allowed x ps k → Means q tables ps (number x) (moved x ps k) v

  pub Means-carried :
      ((x : ℕ) (ps k : List ℤ) (v : ℤ) → Allowed x ps k → ReadGives p tables (With p Carried) x ps k v → ReadGives q tables (With q (Meant q tables)) (number x) ps (moved x ps k) v) →
      (x : ℕ) (ps k : List ℤ) (v : ℤ) → Allowed x ps k → Means p tables ps x k v → Means q tables ps (number x) (moved x ps k) v
  Means-carried step x ps k v allowed m =
      Means-least p tables Carried (λ x ps k v g allowed. Means-close q tables ps (number x) (moved x ps k) v (step x ps k v allowed g)) ps x k v m allowed

  -- and back
  abbrev pub Returned : Reads
  Returned y ps l v = (x : ℕ) (k : List ℤ) → Allowed x ps k → y ≡ number x → l ≡ moved x ps k → Means p tables ps x k v

  pub Means-returned :
      ((x : ℕ) (ps k : List ℤ) (v : ℤ) → Allowed x ps k → ReadGives q tables (With q Returned) (number x) ps (moved x ps k) v → ReadGives p tables (With p (Meant p tables)) x ps k v) →
      (x : ℕ) (ps k : List ℤ) (v : ℤ) → Allowed x ps k → Means q tables ps (number x) (moved x ps k) v → Means p tables ps x k v
  Means-returned step x ps k v allowed m =
      Means-least q tables Returned
      (λ y ps l v g x k allowed same same'.
      Means-close p tables ps x k v (step x ps k v allowed (subst (λ n. ReadGives q tables (With q Returned) n ps (moved x ps k) v) same (subst (λ i. ReadGives q tables (With q Returned) y ps i v) same' g))))
      ps (number x) (moved x ps k) v m x k allowed refl refl

-- what an output or local means is what its body has over the meanings
module _ (p : System) (tables : Tables) (x : ℕ) (variable : Variable) (declared : slice_get p.variables x ≡ Some variable) (written : IsInput variable.role → ⊥) (e : Term) (defined : body_of p.equations x ≡ Some e) (ps k : List ℤ) (v : ℤ) where
  abbrev Parts : Variable → Type 0
  Parts u = IsPointOf (length p.params) u.domain ps k × RoleGives u.role (InputGives tables x k v) (MatchOption (body_of p.equations x) ⊥ (λ body. With p (Meant p tables) body (ps ++ k) v))

  pub body-of_meaning : Means p tables ps x k v → With p (Meant p tables) e (ps ++ k) v
  body-of_meaning m =
      let parts : Parts variable = MatchOption-at Parts (slice_get p.variables x) variable declared (Means-open p tables ps x k v m) in
      MatchOption-at (λ body. With p (Meant p tables) body (ps ++ k) v) (body_of p.equations x) e defined (RoleGives-body variable.role _ _ written parts.1)

  pub meaning-of_body : IsPointOf (length p.params) variable.domain ps k → With p (Meant p tables) e (ps ++ k) v → Means p tables ps x k v
  meaning-of_body point g =
      Means-close p tables ps x k v (at-MatchOption Parts (slice_get p.variables x) variable declared
      (point, RoleGives-from_body variable.role _ _ written (at-MatchOption (λ body. With p (Meant p tables) body (ps ++ k) v) (body_of p.equations x) e defined g)))
