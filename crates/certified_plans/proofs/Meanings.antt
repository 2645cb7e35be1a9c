-- Over a certified mapping each instance means something: what its equation reads is before it.
use Rattle.std.proofs.Common.{◌≡◌, inl, inr, ⊎_elim, ℕ, ◌-◌, List, [], ◌∷◌, ◌++◌, length, not, false, Option, Some, None, refl, sym, ap, subst, ◌∙◌}
use Rattle.std.specs.Prelude.{ℤ, pos, Contains, slice_get, MatchOption, fold}
use Rattle.std.specs.List.{AllZip}
use Rattle.std.specs.Option.{option_map_or}
use Rattle.az_lin.specs.Affine.{Union, value_at}
use Rattle.az_ast.specs.Certified.{IsFinite}
use Rattle.az_ast.specs.Meaning.{IsInput, RoleGives, TermGives, ChoiceGives, Means}
use Rattle.az_ast.specs.Operators.{wrapped, applied, identity}
use Rattle.az_ast.specs.declared.op.Op.TheVariants.{Sub}
use Rattle.az_ast.specs.Points.{IsMember, IsPointOf}
use Rattle.az_ast.specs.Shapes.{is_input}
use Rattle.az_ast.specs.System.{System}
use Rattle.az_ast.specs.Tables.{Tables, InputGives}
use Rattle.az_ast.specs.Term.{Term, constant, index, access, negation, binary, cases, reduction, Choices, none, choice, term}
use Rattle.az_ast.specs.declared.program.Role.{Role}
use Rattle.az_ast.specs.declared.program.Role.TheVariants.{Input, Output, Local}
use Rattle.az_ast.specs.declared.program.Variable.{Variable}
use Rattle.az_ast.proofs.FixedPoint.{Meant, input-means, body-means}
use Rattle.az_ast.proofs.Members.{All-Contains}
use Rattle.equation_meaning.proofs.FinitePoints.{listed}
use Rattle.execution.specs.Setting.{Setting, InstanceMeans, InstanceBefore}
use Rattle.execution.specs.declared.instance.Instance.{Instance}
use Rattle.expr_places.proofs.Branches.{held_or_not}
use Rattle.loop_scan.proofs.Lists.{Contains-first, Contains-rest}
use Rattle.plan_promise.specs.Promise.{IsCertifiedSetting}
use Rattle.target_map.specs.Settings.{is_written}
use Rattle.tile_waves.specs.Waves.{IsInstance}
use Rattle.value_walk.specs.Meanings.{HaveInputs}
use Rattle.value_walk.specs.Needs.{IsReady, AreReady}
use Rattle.certified_plans.proofs.Instances.{instance, defined, no_input, is_instance, IsWithin, ready, read-before}
use Rattle.certified_plans.proofs.Rank.{by_order}

-- a value for each point
each-value : (P : List ℤ → ℤ → Type 0) (points : List (List ℤ)) → ((k : List ℤ) → Contains points k → (v : ℤ) × P k v) → (values : List ℤ) × AllZip P points values
each-value P [] h = ([], tt)
each-value P (k ∷ points) h =
    let here = h k (Contains-first k points) in
    let rest = each-value P points (λ l c. h l (Contains-rest k points l c)) in
    (here.0 ∷ rest.0, (here.1, rest.1))

module _ (p : System) (tables : Tables) where
  abbrev count : ℕ
  count = length p.params

  abbrev HasMeaning : ℕ → List ℤ → List ℤ → Type 0
  HasMeaning y ps l = (v : ℤ) × Means p tables ps y l v

  abbrev Finite : ℕ → Union → List ℤ → Type 0
  Finite extra domain outer = IsFinite domain (length outer) extra

  mutual
    term-value : (e : Term) (z : List ℤ) → IsReady count HasMeaning Finite e z → (v : ℤ) × TermGives count (Meant p tables) e z v
    term-value (constant c) z r = (c, refl)
    term-value (index row) z r = (wrapped (value_at row z), refl)
    term-value (access x f) z r = r.2
    term-value (negation e) z r = let one = term-value e z r in (applied Sub (pos 0) one.0, (one.0, one.1, refl))
    term-value (binary op a b) z r =
        let left = term-value a z r.0 in
        let right = term-value b z r.1 in
        (applied op left.0 right.0, (left.0, right.0, left.1, right.1, refl))
    term-value (cases branches) z r = choice-value branches z r
    term-value (reduction op extra domain e) z r =
        let finite = r.3 z refl in
        let points = listed domain extra z finite.0 finite.1 in
        let each = each-value (λ k v. TermGives count (Meant p tables) e (z ++ k) v) points.0 (λ k c. term-value e (z ++ k) (r.4 k (All-Contains (IsMember domain z extra) points.0 k points.1.only c))) in
        (fold (applied op) (identity op) each.0, record { points = points.0; values = each.0; members = points.1; bodies = each.1; result = refl })

    choice-value : (branches : Choices) (z : List ℤ) → AreReady count HasMeaning Finite branches z → (v : ℤ) × ChoiceGives count (Meant p tables) branches z v
    choice-value none z r = absurd r
    choice-value (choice domain e rest) z r =
        ⊎_elim (λ h. let found = term-value e z (r.1 h) in (found.0, inl (h, found.1)))
        (λ out. let found = choice-value rest z (r.2 out) in (found.0, inr (out, found.1)))
        (held_or_not domain z)

module _ (g : Setting) (is : IsCertifiedSetting g) (inputs : HaveInputs g.program g.tables g.params) where
  abbrev HasValue : Instance → Type 0
  HasValue u = (v : ℤ) × InstanceMeans g u v

  -- a point that is read has a meaning, if it is one of an input or is known
  answer : (y : ℕ) (ps l : List ℤ) → ps ≡ g.params → IsWithin g is y ps l → (is_written g.program y → HasMeaning g.program g.tables y g.params l) → HasMeaning g.program g.tables y ps l
  answer y ps l same within known = subst (λ qs. HasMeaning g.program g.tables y qs l) (sym same) (by (slice_get g.program.variables y) refl (subst (λ qs. IsWithin g is y qs l) same within) (inputs y l))
    where
      of_role : (v : Variable) → slice_get g.program.variables y ≡ Some v → IsPointOf (length g.program.params) v.domain g.params l → (role : Role) → v.role ≡ role →
          RoleGives role (IsMember v.domain g.params (v.domain.width - length g.program.params) l → (w : ℤ) × InputGives g.tables y l w) (Unit {0}) → HasMeaning g.program g.tables y g.params l
      of_role v declared point Input e given =
          let found = given point.member in
          (found.0, input-means g.program g.tables y v declared g.params l found.0 (subst IsInput (sym e) tt) point found.1)
      of_role v declared point Output e given = known (ap (λ o. option_map_or (λ (w : Variable). not (is_input w.role)) o false) declared ∙ ap (λ r. not (is_input r)) e)
      of_role v declared point Local e given = known (ap (λ o. option_map_or (λ (w : Variable). not (is_input w.role)) o false) declared ∙ ap (λ r. not (is_input r)) e)

      by : (o : Option Variable) → slice_get g.program.variables y ≡ o → MatchOption o ⊥ (λ (v : Variable). IsPointOf (length g.program.params) v.domain g.params l) →
          MatchOption o (Unit {0}) (λ (v : Variable). RoleGives v.role (IsMember v.domain g.params (v.domain.width - length g.program.params) l → (w : ℤ) × InputGives g.tables y l w) (Unit {0})) → HasMeaning g.program g.tables y g.params l
      by None e point given = absurd point
      by (Some v) e point given = of_role v e point v.role refl given

  step : (u : Instance) → IsInstance g.program g.params u → ((v : Instance) → IsInstance g.program g.params v → InstanceBefore g v u → HasValue v) → HasValue u
  step u one known =
      let d = defined g is u one in
      let r = ready g is u d (HasMeaning g.program g.tables) (λ y l. is_written g.program y → HasMeaning g.program g.tables y g.params l) answer
      (λ y l reads written. known (instance y l) (is_instance g is u d y l reads written) (read-before g is u d y l reads written)) in
      let found = term-value g.program g.tables (term d.equation.body) (g.params ++ u.point) r in
      (found.0, body-means g.program g.tables u.variable d.variable d.declared g.params u.point found.0 d.equation (no_input g is u d) d.found d.point found.1)

  pub every_means : (u : Instance) → IsInstance g.program g.params u → HasValue u
  every_means u one = by_order g is HasValue step u one
