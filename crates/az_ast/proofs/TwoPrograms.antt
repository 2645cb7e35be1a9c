-- Equal meanings across two programs whose reads are related.
use Rattle.std.proofs.Common.{◌≡◌, ℕ, List, ◌++◌, length, Option, Some, None, refl, subst}
use Rattle.std.specs.Prelude.{ℤ, slice_get, MatchOption}
use Rattle.az_ast.specs.declared.program.Role.{Role}
use Rattle.az_ast.specs.declared.program.Role.TheVariants.{Input, Output, Local}
use Rattle.az_ast.specs.declared.program.Variable.{Variable}
use Rattle.az_ast.specs.Meaning.{Values, Reads, RoleGives, ReadGives, body_of, Means}
use Rattle.az_ast.specs.Points.{IsPointOf}
use Rattle.az_ast.specs.System.{System}
use Rattle.az_ast.specs.Tables.{Tables, InputGives}
use Rattle.az_ast.specs.Term.{Term}
use Rattle.az_ast.proofs.FixedPoint.{Meant, With, Means-close, Means-least}
use Rattle.az_ast.proofs.ReadLemmas.{at-MatchOption}

module _ (p q : System) (tables others : Tables) where
  -- a read of one program as a read of the other: of a variable of the same role, at a point of it, where
  -- the tables give the same and the bodies have the same values
  module _ (bodies more : Term → Values) (x : ℕ) (ps k : List ℤ) (y : ℕ) (qs l : List ℤ) (v : ℤ) where
    pub read_over :
        ((u : Variable) → slice_get p.variables x ≡ Some u → (w : Variable) × (slice_get q.variables y ≡ Some w) × (u.role ≡ w.role) × (IsPointOf (length p.params) u.domain ps k → IsPointOf (length q.params) w.domain qs l)) →
        (InputGives tables x k v → InputGives others y l v) →
        ((u : Variable) → slice_get p.variables x ≡ Some u → IsPointOf (length p.params) u.domain ps k → (e : Term) → body_of p.equations x ≡ Some e →
        (f : Term) × (body_of q.equations y ≡ Some f) × (bodies e (ps ++ k) v → more f (qs ++ l) v)) →
        ReadGives p tables bodies x ps k v → ReadGives q others more y qs l v
    read_over variable input body g = by (slice_get p.variables x) refl g
      where
        of_body : (u : Variable) → slice_get p.variables x ≡ Some u → IsPointOf (length p.params) u.domain ps k → (o : Option Term) → body_of p.equations x ≡ o →
            MatchOption o ⊥ (λ e. bodies e (ps ++ k) v) → MatchOption (body_of q.equations y) ⊥ (λ f. more f (qs ++ l) v)
        of_body u d h None e b = absurd b
        of_body u d h (Some t) e b = let one = body u d h t e in at-MatchOption (λ f. more f (qs ++ l) v) (body_of q.equations y) one.0 one.1 (one.2 b)

        of_role : (u : Variable) → slice_get p.variables x ≡ Some u → IsPointOf (length p.params) u.domain ps k → (role : Role) →
            RoleGives role (InputGives tables x k v) (MatchOption (body_of p.equations x) ⊥ (λ e. bodies e (ps ++ k) v)) →
            RoleGives role (InputGives others y l v) (MatchOption (body_of q.equations y) ⊥ (λ f. more f (qs ++ l) v))
        of_role u d h Input r = input r
        of_role u d h Output r = of_body u d h (body_of p.equations x) refl r
        of_role u d h Local r = of_body u d h (body_of p.equations x) refl r

        by : (o : Option Variable) → slice_get p.variables x ≡ o →
            MatchOption o ⊥ (λ u. IsPointOf (length p.params) u.domain ps k × RoleGives u.role (InputGives tables x k v) (MatchOption (body_of p.equations x) ⊥ (λ e. bodies e (ps ++ k) v))) →
            ReadGives q others more y qs l v
        by None e h = absurd h
        by (Some u) e h =
            let other = variable u e in
            at-MatchOption
            (λ w. IsPointOf (length q.params) w.domain qs l × RoleGives w.role (InputGives others y l v) (MatchOption (body_of q.equations y) ⊥ (λ f. more f (qs ++ l) v)))
            (slice_get q.variables y) other.0 other.1
            (other.3 h.0, subst (λ role. RoleGives role (InputGives others y l v) (MatchOption (body_of q.equations y) ⊥ (λ f. more f (qs ++ l) v))) other.2 (of_role u e h.0 u.role h.1))

  -- points of one program that stand for points of the other, and what is then carried over
  module _ (related : ℕ → List ℤ → List ℤ → ℕ → List ℤ → List ℤ → Type 0) where
    abbrev pub Carried : Reads
    Carried x ps k v = (y : ℕ) (qs l : List ℤ) → related x ps k y qs l → Means q others qs y l v

    -- if each read of the one, over what is carried over, is a read of the other over its meanings, then
    -- related points mean the same
    pub Means-over :
        ((x : ℕ) (ps k : List ℤ) (y : ℕ) (qs l : List ℤ) (v : ℤ) → related x ps k y qs l → ReadGives p tables (With p Carried) x ps k v → ReadGives q others (With q (Meant q others)) y qs l v) →
        (x : ℕ) (ps k : List ℤ) (y : ℕ) (qs l : List ℤ) (v : ℤ) → related x ps k y qs l → Means p tables ps x k v → Means q others qs y l v
    Means-over step x ps k y qs l v r m =
        Means-least p tables Carried (λ x ps k v g y qs l r. Means-close q others qs y l v (step x ps k y qs l v r g)) ps x k v m y qs l r
