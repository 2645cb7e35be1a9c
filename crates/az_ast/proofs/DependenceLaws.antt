-- What is read has a meaning first: where a point has a meaning, each point that its equation reads has one,
-- to a lesser depth. So no point of a closed chain of reads has a meaning.
use Rattle.std.proofs.Common.{◌≡◌, ℕ, zero, suc, ◌<◌, List, [], ◌∷◌, ◌++◌, length, Some, None, Option, refl, subst, arith, ⊎_elim}
use Rattle.std.specs.Prelude.{ℤ, Contains, slice_get, MatchOption}
use Rattle.std.specs.List.{AllZip}
use Rattle.az_lin.specs.Affine.{Union}
use Rattle.az_ast.specs.declared.program.Role.{Role}
use Rattle.az_ast.specs.declared.program.Role.TheVariants.{Input, Output, Local}
use Rattle.az_ast.specs.declared.program.Variable.{Variable}
use Rattle.az_ast.specs.Dependences.{Hits, TermReads, ChoiceReads, IsRead, PointReads, Evaluates, EvaluatesBranch}
use Rattle.az_ast.specs.Meaning.{Reads, TermGives, ChoiceGives, RoleGives, body_of, ValueBelow, ReadTo, Means}
use Rattle.az_ast.specs.Points.{IsPointOf, AreMembers}
use Rattle.az_ast.specs.System.{System}
use Rattle.az_ast.specs.Tables.{Tables, InputGives}
use Rattle.az_ast.specs.Term.{Term, constant, index, access, negation, binary, cases, reduction, Choices, none, choice}

-- at each point that is listed beside a value, the body has that value
listed :
    (P : List ℤ → ℤ → Type 0) (points : List (List ℤ)) (values : List ℤ) → AllZip P points values → (k : List ℤ) → Contains points k → (w : ℤ) × P k w
listed P [] [] a k (i, h, e) = absurd (omega arith)
listed P [] (w ∷ values) a k c = absurd a
listed P (q ∷ points) [] a k c = absurd a
listed P (q ∷ points) (w ∷ values) a k (zero, h, e) = (w, subst (λ r. P r w) e a.0)
listed P (q ∷ points) (w ∷ values) a k (suc i, h, e) = listed P points values a.1 k (i, omega arith, e)

module _ (params : ℕ) (hits : Hits) (reads : Reads) where
  -- a read point that is among those looked for, with its value
  abbrev Found : Type 0
  Found = (x : ℕ) × (ps : List ℤ) × (k : List ℤ) × (v : ℤ) × hits x ps k × reads x ps k v

  mutual
    pub reads-found : (e : Term) (z : List ℤ) (v : ℤ) → TermGives params reads e z v → TermReads params hits e z → Found
    reads-found (constant c) z v g r = absurd r
    reads-found (index row) z v g r = absurd r
    reads-found (access x f) z v g r = (x, _, _, v, r, g)
    reads-found (negation e) z v g r = reads-found e z g.0 g.1 r
    reads-found (binary op a b) z v g r = ⊎_elim (λ l. reads-found a z g.0 g.2 l) (λ l. reads-found b z g.1 g.3 l) r
    reads-found (cases branches) z v g r = choice-found branches z v g r
    reads-found (reduction op extra domain e) z v g r =
        let one = listed (λ k w. TermGives params reads e (z ++ k) w) g.points g.values g.bodies r.0 (g.members.every r.0 r.1) in
        reads-found e (z ++ r.0) one.0 one.1 r.2

    choice-found : (branches : Choices) (z : List ℤ) (v : ℤ) → ChoiceGives params reads branches z v → ChoiceReads params hits branches z → Found
    choice-found none z v g r = absurd g
    choice-found (choice domain e rest) z v g r =
        ⊎_elim
        (λ here. ⊎_elim (λ l. reads-found e z v here.1 l.1) (λ l. absurd (l.0 here.0)) r)
        (λ there. ⊎_elim (λ l. absurd (there.0 l.0)) (λ l. choice-found rest z v there.1 l.1) r) g

-- an expression has a value only where each reduction that is evaluated has a list of its members
module _ (params : ℕ) (hits : ℕ → Union → List ℤ → Type 0) (reads : Reads) where
  abbrev Listed : Type 0
  Listed = (extra : ℕ) × (domain : Union) × (z : List ℤ) × (points : List (List ℤ)) × hits extra domain z × AreMembers domain z extra points

  mutual
    pub reduction-listed : (e : Term) (z : List ℤ) (v : ℤ) → TermGives params reads e z v → Evaluates hits e z → Listed
    reduction-listed (constant c) z v g r = absurd r
    reduction-listed (index row) z v g r = absurd r
    reduction-listed (access x f) z v g r = absurd r
    reduction-listed (negation e) z v g r = reduction-listed e z g.0 g.1 r
    reduction-listed (binary op a b) z v g r = ⊎_elim (λ l. reduction-listed a z g.0 g.2 l) (λ l. reduction-listed b z g.1 g.3 l) r
    reduction-listed (cases branches) z v g r = branch-listed branches z v g r
    reduction-listed (reduction op extra domain e) z v g r =
        ⊎_elim (λ h. (extra, domain, z, g.points, h, g.members))
        (λ h. let one = listed (λ k w. TermGives params reads e (z ++ k) w) g.points g.values g.bodies h.0 (g.members.every h.0 h.1) in reduction-listed e (z ++ h.0) one.0 one.1 h.2) r

    branch-listed : (branches : Choices) (z : List ℤ) (v : ℤ) → ChoiceGives params reads branches z v → EvaluatesBranch hits branches z → Listed
    branch-listed none z v g r = absurd g
    branch-listed (choice domain e rest) z v g r =
        ⊎_elim
        (λ here. ⊎_elim (λ l. reduction-listed e z v here.1 l.1) (λ l. absurd (l.0 here.0)) r)
        (λ there. ⊎_elim (λ l. absurd (there.0 l.0)) (λ l. branch-listed rest z v there.1 l.1) r) g

module _ (p : System) (tables : Tables) (params : List ℤ) where
  -- a value to a lesser depth
  abbrev Lesser : ℕ → ℕ → List ℤ → Type 0
  Lesser depth y l = (lesser : ℕ) × (w : ℤ) × (lesser < depth) × ReadTo p tables lesser y params l w

  read-lesser : (depth x : ℕ) (k : List ℤ) (v : ℤ) (y : ℕ) (l : List ℤ) → ReadTo p tables depth x params k v → PointReads p params x k y l → Lesser depth y l
  read-lesser depth x k v y l g r = by (slice_get p.variables x) g r
    where
      of_found : (lesser : ℕ) → lesser < depth → Found (length p.params) (IsRead y params l) (ReadTo p tables lesser) → Lesser depth y l
      of_found lesser h f =
          let at = f.4 in (
            lesser,
            f.3,
            h,
            subst (λ n. ReadTo p tables lesser n params l f.3) at.same_variable
                (subst (λ ps. ReadTo p tables lesser f.0 ps l f.3) at.same_parameters (subst (λ q. ReadTo p tables lesser f.0 f.1 q f.3) at.same_indices f.5)),
          )

      of_body : (d : ℕ) → d ≡ depth → (body : Term) → ValueBelow p tables d body (params ++ k) v → TermReads (length p.params) (IsRead y params l) body (params ++ k) → Lesser depth y l
      of_body zero e body h t = absurd h
      of_body (suc d) e body h t = of_found d (omega arith) (reads-found (length p.params) (IsRead y params l) (ReadTo p tables d) body (params ++ k) v h t)

      bodies : (o : Option Term) → MatchOption o ⊥ (λ body. ValueBelow p tables depth body (params ++ k) v) → MatchOption o ⊥ (λ body. TermReads (length p.params) (IsRead y params l) body (params ++ k)) → Lesser depth y l
      bodies None h t = absurd h
      bodies (Some body) h t = of_body depth refl body h t

      roles : (role : Role) →
          RoleGives role (InputGives tables x k v) (MatchOption (body_of p.equations x) ⊥ (λ body. ValueBelow p tables depth body (params ++ k) v)) →
          RoleGives role ⊥ (MatchOption (body_of p.equations x) ⊥ (λ body. TermReads (length p.params) (IsRead y params l) body (params ++ k))) → Lesser depth y l
      roles Input h t = absurd t
      roles Output h t = bodies (body_of p.equations x) h t
      roles Local h t = bodies (body_of p.equations x) h t

      by : (o : Option Variable) →
          MatchOption o ⊥ (λ variable. IsPointOf (length p.params) variable.domain params k × RoleGives variable.role (InputGives tables x k v) (MatchOption (body_of p.equations x) ⊥ (λ body. ValueBelow p tables depth body (params ++ k) v))) →
          MatchOption o ⊥ (λ variable. IsPointOf (length p.params) variable.domain params k × RoleGives variable.role ⊥ (MatchOption (body_of p.equations x) ⊥ (λ body. TermReads (length p.params) (IsRead y params l) body (params ++ k)))) → Lesser depth y l
      by None h t = absurd h
      by (Some variable) h t = roles variable.role h.1 t.1

  -- what the equation of a point with a meaning reads has a meaning
  pub read-means : (x : ℕ) (k : List ℤ) (v : ℤ) (y : ℕ) (l : List ℤ) → Means p tables params x k v → PointReads p params x k y l → (w : ℤ) × Means p tables params y l w
  read-means x k v y l m r = let one = read-lesser m.0 x k v y l m.1 r in (one.1, (one.0, one.3))

  -- one point reads another by way of these between them, in order
  abbrev pub ReadsAlong : ℕ → List ℤ → List (ℕ × List ℤ) → ℕ → List ℤ → Type 0
  ReadsAlong x k [] y l = PointReads p params x k y l
  ReadsAlong x k (next ∷ rest) y l = PointReads p params x k next.0 next.1 × ReadsAlong next.0 next.1 rest y l

  along-lesser :
      (depth x : ℕ) (k : List ℤ) (v : ℤ) (between : List (ℕ × List ℤ)) (y : ℕ) (l : List ℤ) → ReadTo p tables depth x params k v → ReadsAlong x k between y l →
      Lesser depth y l
  along-lesser depth x k v [] y l g r = read-lesser depth x k v y l g r
  along-lesser depth x k v (next ∷ rest) y l g r =
      let first = read-lesser depth x k v next.0 next.1 g r.0 in
      let last = along-lesser first.0 next.0 next.1 first.1 rest y l first.3 r.1 in
      (last.0, last.1, omega (arith, first.2, last.2), last.3)

  none_below : (bound depth x : ℕ) (k : List ℤ) (v : ℤ) (between : List (ℕ × List ℤ)) → depth < bound → ReadTo p tables depth x params k v → ReadsAlong x k between x k → ⊥
  none_below zero depth x k v between h g r = omega arith
  none_below (suc bound) depth x k v between h g r =
      let less = along-lesser depth x k v between x k g r in
      none_below bound less.0 x k less.1 between (omega (arith, less.2)) less.3 r

  -- a point that reads itself, at once or by way of others, has no meaning
  pub closed_chain-none : (x : ℕ) (k : List ℤ) (between : List (ℕ × List ℤ)) → ReadsAlong x k between x k → (v : ℤ) → Means p tables params x k v → ⊥
  closed_chain-none x k between r v m = none_below (suc m.0) m.0 x k v between (omega arith) m.1 r
