-- There are finitely many instances, so what holds of an instance wherever it holds of all that are before it holds of
-- all: those before it are fewer each time.
use Rattle.std.proofs.Common.{◌≡◌, ◌⊎◌, inl, inr, ⊎_elim, ℕ, zero, suc, ◌-◌, ◌<◌, List, [], ◌∷◌, ◌++◌, length, Bool, true, false, not, Option, Some, None, refl, sym, ap, subst, ◌∙◌, arith}
use Rattle.std.specs.Prelude.{ℤ, Contains, slice_get}
use Rattle.std.specs.Option.{option_map_or}
use Rattle.std.proofs.lemmas.List.Elements.{Contains-append_left, Contains-append_right, Contains-append_cases}
use Rattle.std.proofs.lemmas.Option.{slice_get_within, get_or_from_slice_get}
use Rattle.az_ast.specs.Certified.{IsFinite}
use Rattle.az_ast.specs.Points.{IsMember, IsPointOf, AreMembers}
use Rattle.az_ast.specs.Shapes.{is_input}
use Rattle.az_ast.specs.System.{System}
use Rattle.az_ast.specs.declared.program.Variable.{Variable}
use Rattle.az_ast.proofs.Members.{All-Contains}
use Rattle.execution.specs.Setting.{Setting, InstanceBefore}
use Rattle.execution.specs.declared.instance.Instance.{Instance}
use Rattle.execution.proofs.Lists.{within_or_past}
use Rattle.equation_meaning.proofs.FinitePoints.{listed}
use Rattle.loop_scan.proofs.Lists.{first_or_rest, Contains-first, Contains-rest, none_contained, all_of_members}
use Rattle.plan_promise.specs.Promise.{IsCertifiedSetting}
use Rattle.target_map.specs.Settings.{is_written}
use Rattle.target_map.specs.Times.{domain_of}
use Rattle.tile_waves.specs.Waves.{IsInstance}
use Rattle.certified_plans.proofs.Instances.{instance, defined}
use Rattle.certified_plans.proofs.ListLemmas.{count_of, count-less}
use Rattle.certified_plans.proofs.Orders.{before_itself, decided, before_chain}

abbrev is_left : {A B : Type 0} → A ⊎ B → Bool
is_left (inl a) = true
is_left (inr b) = false

left_is : {A B : Type 0} (o : A ⊎ B) → is_left o ≡ true → A
left_is (inl a) e = a
left_is (inr b) e = cc

is_left_of : {A : Type 0} (o : A ⊎ (A → ⊥)) → A → is_left o ≡ true
is_left_of (inl a) h = refl
is_left_of (inr never) h = absurd (never h)

is_right_of : {A : Type 0} (o : A ⊎ (A → ⊥)) → (A → ⊥) → is_left o ≡ false
is_right_of (inl a) h = absurd (h a)
is_right_of (inr never) h = refl

-- the instances of a variable
abbrev instances : ℕ → List (List ℤ) → List Instance
instances x [] = []
instances x (k ∷ ks) = instance x k ∷ instances x ks

instances-has : (x : ℕ) (ks : List (List ℤ)) (k : List ℤ) → Contains ks k → Contains (instances x ks) (instance x k)
instances-has x [] k c = absurd (none_contained k c)
instances-has x (l ∷ ks) k c = ⊎_elim
    (λ same. subst (λ q. Contains (instance x l ∷ instances x ks) (instance x q)) (sym same) (Contains-first (instance x l) (instances x ks)))
    (λ later. Contains-rest (instance x l) (instances x ks) (instance x k) (instances-has x ks k later)) (first_or_rest l ks k c)

instances-are : (x : ℕ) (ks : List (List ℤ)) (u : Instance) → Contains (instances x ks) u → (k : List ℤ) × Contains ks k × (u ≡ instance x k)
instances-are x [] u c = absurd (none_contained u c)
instances-are x (l ∷ ks) u c = ⊎_elim (λ same. (l, Contains-first l ks, same))
    (λ later. let rest = instances-are x ks u later in (rest.0, Contains-rest l ks rest.0 rest.1, rest.2)) (first_or_rest (instance x l) (instances x ks) u c)

module _ (g : Setting) (is : IsCertifiedSetting g) where
  abbrev p : System
  p = g.program

  abbrev Is : Instance → Type 0
  Is u = IsInstance g.program g.params u

  record AreOf (x : ℕ) : Type 0 where
    list : List Instance
    only : (u : Instance) → Contains list u → Is u
    every : (u : Instance) → Is u → u.variable ≡ x → Contains list u

  none_of : (x : ℕ) → (is_written p x → ⊥) → AreOf x
  none_of x never = record { list = []; only = λ u c. absurd (none_contained u c); every = λ u one e. absurd (never (subst (is_written p) e one.written)) }

  instances_of : (x : ℕ) → AreOf x
  instances_of x = by (slice_get p.variables x) refl
    where
      with_points : (v : Variable) → slice_get p.variables x ≡ Some v → is_input v.role ≡ false → (ks : List (List ℤ)) × AreMembers v.domain g.params (v.domain.width - length p.params) ks → AreOf x
      with_points v declared written points = record { list = instances x points.0; only = only; every = every }
        where
          domain_is : v.domain ≡ domain_of p x
          domain_is = ap (λ o. option_map_or (λ (w : Variable). w.domain) o (record { width = 0; disjuncts = [] })) (sym declared)

          only : (u : Instance) → Contains (instances x points.0) u → Is u
          only u c =
              let found = instances-are x points.0 u c in
              let member = All-Contains (IsMember v.domain g.params (v.domain.width - length p.params)) points.0 found.0 points.1.only found.1 in
              subst Is (sym found.2) (record {
                written = ap (λ o. option_map_or (λ (w : Variable). not (is_input w.role)) o false) declared ∙ ap not written;
                point = subst (λ domain. IsPointOf (length p.params) domain g.params found.0) domain_is (record { parameters = is.count; member = member });
              })

          every : (u : Instance) → Is u → u.variable ≡ x → Contains (instances x points.0) u
          every u one e =
              let point = subst (λ domain. IsPointOf (length p.params) domain g.params u.point) (ap (domain_of p) e ∙ sym domain_is) one.point in
              let same : instance x u.point ≡ u = (λ i. instance (sym e i) u.point) in
              subst (λ w. Contains (instances x points.0) w) same (instances-has x points.0 u.point (points.1.every u.point point.member))

      finite : (v : Variable) → slice_get p.variables x ≡ Some v → (ks : List (List ℤ)) × AreMembers v.domain g.params (v.domain.width - length p.params) ks
      finite v declared =
          let all = is.certified.finite x v (slice_get_within p.variables x v declared) in
          let own = subst (λ (w : Variable). IsFinite w.domain (length p.params) (w.domain.width - length p.params)) (get_or_from_slice_get p.variables x v v declared) all g.params is.count in
          listed v.domain (v.domain.width - length p.params) g.params own.0 own.1

      with_role : (v : Variable) → slice_get p.variables x ≡ Some v → (b : Bool) → is_input v.role ≡ b → AreOf x
      with_role v declared true input = none_of x (λ written. let shown = sym written ∙ (ap (λ o. option_map_or (λ (w : Variable). not (is_input w.role)) o false) declared ∙ ap not input) in cc)
      with_role v declared false written = with_points v declared written (finite v declared)

      by : (o : Option Variable) → slice_get p.variables x ≡ o → AreOf x
      by None e = none_of x (λ written. let shown = sym written ∙ ap (λ o. option_map_or (λ (w : Variable). not (is_input w.role)) o false) e in cc)
      by (Some v) e = with_role v e (is_input v.role) refl

  record AreBelow (n : ℕ) : Type 0 where
    list : List Instance
    only : (u : Instance) → Contains list u → Is u
    every : (u : Instance) → Is u → u.variable < n → Contains list u

  below : (n : ℕ) → AreBelow n
  below zero = record { list = []; only = λ u c. absurd (none_contained u c); every = λ u one less. absurd (omega (arith, less)) }
  below (suc n) =
      let rest = below n in
      let last = instances_of n in
      record {
        list = rest.list ++ last.list;
        only = λ u c. ⊎_elim (λ l. rest.only u l) (λ r. last.only u r) (Contains-append_cases rest.list last.list u c);
        every = λ u one less. ⊎_elim
            (λ (l : u.variable < n). Contains-append_left rest.list last.list u (rest.every u one l))
            (λ (e : u.variable ≡ n). Contains-append_right rest.list last.list u (last.every u one e))
            (earlier_or_last u.variable n less);
      }
    where
      earlier_or_last : (i n : ℕ) → i < suc n → (i < n) ⊎ (i ≡ n)
      earlier_or_last i n less = ⊎_elim (λ l. inl l) (λ past. inr (omega (arith, past, less))) (within_or_past i n)

  abbrev all : AreBelow (length g.program.variables)
  all = below (length g.program.variables)

  has : (u : Instance) → Is u → Contains all.list u
  has u one = let d = defined g is u one in all.every u one (slice_get_within p.variables u.variable d.variable d.declared)

  -- whether it is before the first
  abbrev before : Instance → Instance → Bool
  before u w = is_left (decided g is w u)

  fewer : (u v : Instance) → Is u → Is v → InstanceBefore g v u → count_of (before v) all.list < count_of (before u) all.list
  fewer u v one two h =
      count-less Is (before v) (before u)
      (λ w three passes. is_left_of (decided g is w u) (before_chain g is w v u three two one (left_is (decided g is w v) passes) h))
      all.list v (all_of_members Is all.list all.only) (has v two)
      (is_right_of (decided g is v v) (before_itself g is v)) (is_left_of (decided g is v u) h)

  module _ (P : Instance → Type 0) (step : (u : Instance) → Is u → ((v : Instance) → Is v → InstanceBefore g v u → P v) → P u) where
    ranked : (n : ℕ) (u : Instance) → Is u → count_of (before u) all.list < n → P u
    ranked zero u one less = absurd (omega (arith, less))
    ranked (suc n) u one less = step u one (λ v two h. let l = fewer u v one two h in ranked n v two (omega (arith, less, l)))

    pub by_order : (u : Instance) → Is u → P u
    by_order u one = ranked (suc (count_of (before u) all.list)) u one (omega arith)
