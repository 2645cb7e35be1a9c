-- What certification gives at an instance: its equation can be evaluated, each point that it reads is one of the
-- variable's, and a read of an output or local is of an instance that is before it and that nothing stores over.
use Rattle.std.proofs.Common.{◌≡◌, ◌⊎◌, inl, inr, ℕ, ◌+◌, ◌<◌, ◌≤◌, List, [], ◌++◌, length, take, drop, Bool, true, false, not, if◌then◌else◌, append_assoc, Option, Some, None, refl, sym, ap, subst, ◌∙◌, arith, length-append}
use Rattle.std.specs.Prelude.{ℤ, All, Contains, slice_get, MatchOption, is_none, ◌==◌}
use Rattle.std.specs.List.{range_with_len}
use Rattle.std.specs.Option.{option_map_or}
use Rattle.std.proofs.Math.Seq.{take-append_seam, drop-append_seam}
use Rattle.std.proofs.lemmas.Bool.{eqb-true}
use Rattle.std.proofs.lemmas.List.{append-nil, append_cancel_left, length-map, take_all}
use Rattle.std.proofs.lemmas.List.Elements.{All-contains}
use Rattle.std.proofs.lemmas.Option.{slice_get_within}
use Rattle.az_lin.specs.Affine.{Affine, AffineMap, Union, HoldsSome, image_of, value_at}
use Rattle.az_ast.specs.Certified.{IsFinite, ReadsWithin, IsInContext}
use Rattle.az_ast.specs.Dependences.{Hits, TermReads, IsRead}
use Rattle.az_ast.specs.Meaning.{IsInput, equation_of}
use Rattle.az_ast.specs.Points.{IsPointOf}
use Rattle.az_ast.specs.Shapes.{of_variable, is_input, indices}
use Rattle.az_ast.specs.System.{System}
use Rattle.az_ast.specs.Term.{term}
use Rattle.az_ast.specs.declared.program.Equation.{Equation}
use Rattle.az_ast.specs.declared.program.Role.{Role}
use Rattle.az_ast.specs.declared.program.Role.TheVariants.{Input, Output, Local}
use Rattle.az_ast.specs.declared.program.Variable.{Variable}
use Rattle.az_ast.proofs.ProgramLaws.{equation_is}
use Rattle.az_ast.proofs.ReadLemmas.{MatchOption-at}
use Rattle.execution.specs.Setting.{Setting, InstanceBefore}
use Rattle.execution.specs.declared.instance.Instance.{Instance}
use Rattle.expr_places.specs.Places.{access_to, Place, places, body_scope, places_of}
use Rattle.expr_places.specs.Reads.{ReadPlace, read_at, reads_of}
use Rattle.plan_promise.specs.Promise.{IsCertifiedSetting}
use Rattle.target_map.specs.Laws.{IsSame, IsTimely, SharesCell, IsSafeBeside}
use Rattle.target_map.specs.Settings.{is_written}
use Rattle.target_map.specs.Storage.{MayShare, shares_space, writers_of}
use Rattle.target_map.specs.Times.{domain_of, storage_of, cell_at, IsBefore}
use Rattle.target_map.proofs.Orders.{certified_gives_order}
use Rattle.tile_waves.specs.Waves.{IsInstance}
use Rattle.value_walk.specs.Needs.{IsReady}
use Rattle.value_walk.proofs.Bodies.{whole, body-ready}
use Rattle.certified_plans.proofs.ListLemmas.{found-in, passed-in, mapped-in, below-in}
use Rattle.certified_plans.proofs.ReachedReads.{read-answered, IsPlaced, read-placed}

abbrev pub instance : ℕ → List ℤ → Instance
instance x point = record { variable = x; point = point }

module _ (g : Setting) (is : IsCertifiedSetting g) where
  abbrev p : System
  p = g.program

  abbrev count : ℕ
  count = length g.program.params

  -- the variable and the equation of an instance
  pub record IsDefined (u : Instance) : Type 0 where
    pub variable : Variable
    pub declared : slice_get g.program.variables u.variable ≡ Some variable
    pub written : is_input variable.role ≡ false
    pub point : IsPointOf (length g.program.params) variable.domain g.params u.point
    pub equation : Equation
    pub found : equation_of g.program.equations u.variable ≡ Some equation

  pub defined : (u : Instance) → IsInstance g.program g.params u → IsDefined u
  defined u one = by (slice_get p.variables u.variable) refl one.written one.point
    where
      turned : (b : Bool) → not b ≡ true → b ≡ false
      turned true e = cc
      turned false e = refl

      with_equation : (v : Variable) → slice_get p.variables u.variable ≡ Some v → is_input v.role ≡ false → IsPointOf count v.domain g.params u.point → (o : Option Equation) → equation_of p.equations u.variable ≡ o → IsDefined u
      with_equation v declared written point None e =
          absurd (let none = ap is_none e in let law = equation_is p is.program u.variable v declared in cc)
      with_equation v declared written point (Some equation) e = record { variable = v; declared = declared; written = written; point = point; equation = equation; found = e }

      by : (o : Option Variable) → slice_get p.variables u.variable ≡ o → option_map_or (λ (v : Variable). not (is_input v.role)) o false ≡ true →
          IsPointOf count (option_map_or (λ (v : Variable). v.domain) o (record { width = 0; disjuncts = [] })) g.params u.point → IsDefined u
      by None e written point = cc
      by (Some v) e written point = with_equation v e (turned (is_input v.role) written) point (equation_of p.equations u.variable) refl

  pub no_input : (u : Instance) (d : IsDefined u) → IsInput d.variable.role → ⊥
  no_input u d input = by d.variable.role d.written input
    where
      by : (role : Role) → is_input role ≡ false → IsInput role → ⊥
      by Input e i = cc
      by Output e i = i
      by Local e i = i

  -- a point of a declared variable
  abbrev pub IsWithin : Hits
  IsWithin y params l = MatchOption (slice_get g.program.variables y) ⊥ (λ (v : Variable). IsPointOf (length g.program.params) v.domain params l)

  abbrev Finite : ℕ → Union → List ℤ → Type 0
  Finite extra domain outer = IsFinite domain (length outer) extra

  within : (y : ℕ) (f : AffineMap) (z : List ℤ) → take count z ≡ g.params → MatchOption (slice_get p.variables y) ⊥ (λ (v : Variable). length f.rows ≡ indices count v) → ReadsWithin p y f z → IsWithin y (take count z) (image_of f z)
  within y f z first arity reads = by (slice_get p.variables y) arity reads
    where
      by : (o : Option Variable) → MatchOption o ⊥ (λ (v : Variable). length f.rows ≡ indices count v) → MatchOption o ⊥ (λ (v : Variable). HoldsSome v.domain (take count z ++ image_of f z)) →
          MatchOption o ⊥ (λ (v : Variable). IsPointOf count v.domain (take count z) (image_of f z))
      by None a r = a
      by (Some v) a r = record {
        parameters = ap length first ∙ is.count;
        member = (length-map f.rows (λ (row : Affine). value_at row z) ∙ a, r);
      }

  module _ (u : Instance) (d : IsDefined u) where
    abbrev z : List ℤ
    z = g.params ++ u.point

    pub full : length (g.params ++ u.point) ≡ d.variable.domain.width
    full = whole p is.program is.certified g.params is.count u.variable d.variable d.declared u.point d.point.member

    pub wide : length g.program.params ≤ length (g.params ++ u.point)
    wide = omega (arith, is.count, length-append g.params u.point)

    pub first : take (length g.program.params) (g.params ++ u.point) ≡ g.params
    first = ap (λ n. take n z) (sym is.count) ∙ take-append_seam g.params u.point

    -- its equation can be evaluated, where what it reads has answers
    pub ready :
        (answered : Hits) (Reached : ℕ → List ℤ → Type 0) →
        ((y : ℕ) (params l : List ℤ) → params ≡ g.params → IsWithin y params l → Reached y l → answered y params l) →
        ((y : ℕ) (l : List ℤ) → TermReads count (IsRead y g.params l) (term d.equation.body) (g.params ++ u.point) → Reached y l) →
        IsReady count answered (λ extra domain outer. IsFinite domain (length outer) extra) (term d.equation.body) (g.params ++ u.point)
    ready answered Reached answer reads =
        body-ready p is.program is.certified g.params is.count u.variable d.variable d.declared u.point d.point.member d.equation d.found is.inside
        answered Finite Reached (λ extra domain outer. Unit {0})
        (λ y f y_z same arity inside reached. answer y (take count y_z) (image_of f y_z) same (within y f y_z same arity inside) reached)
        (λ extra domain outer finite met. finite) reads (λ extra domain outer met. tt)

    pub ready_within : IsReady count IsWithin Finite (term d.equation.body) (g.params ++ u.point)
    ready_within = ready IsWithin (λ y l. Unit {0}) (λ y params l same inside reached. inside) (λ y l reads. tt)

    module _ (y : ℕ) (l : List ℤ) (reads : TermReads count (IsRead y g.params l) (term d.equation.body) (g.params ++ u.point)) where
      -- what is read is a point of its variable
      pub read-within : IsWithin y g.params l
      read-within =
          let r = read-answered count IsWithin Finite (IsRead y g.params l) (term d.equation.body) z ready_within reads in
          subst (λ x. IsWithin x g.params l) r.hit.same_variable (subst (λ ps. IsWithin r.variable ps l) r.hit.same_parameters (subst (λ k. IsWithin r.variable r.params k) r.hit.same_indices r.answer))

      pub read-point : (v : Variable) → slice_get p.variables y ≡ Some v → IsPointOf count v.domain g.params l
      read-point v declared = MatchOption-at (λ (w : Variable). IsPointOf count w.domain g.params l) (slice_get p.variables y) v declared read-within

      abbrev Placed : Type 0
      Placed = IsPlaced count IsWithin Finite (IsRead y g.params l) (places (term d.equation.body) (body_scope p d.variable)) z

      placed : Placed
      placed =
          let outer : p.pdom.width ≡ count = is.program.placed.parameters in
          let parts : length z ≡ length g.params + length u.point = length-append g.params u.point in
          read-placed count IsWithin Finite (IsRead y g.params l) (term d.equation.body) (body_scope p d.variable) z full
          (omega (arith, outer, parts, is.count), (omega (arith, full), tt))
          (subst (λ q. HoldsSome p.pdom q) (sym (ap (λ n. take n z) outer ∙ first)) is.inside, (subst (λ q. HoldsSome d.variable.domain q) (sym (take_all d.variable.domain.width z (omega (arith, full)))) d.point.member.1, tt))
          ready_within reads

      module _ (written : is_written p y) where
        -- it is an instance
        pub is_instance : IsInstance g.program g.params (instance y l)
        is_instance = record { written = written; point = by (slice_get p.variables y) read-within }
          where
            by : (o : Option Variable) → MatchOption o ⊥ (λ (v : Variable). IsPointOf count v.domain g.params l) →
                IsPointOf count (option_map_or (λ (v : Variable). v.domain) o (record { width = 0; disjuncts = [] })) g.params l
            by None point = absurd point
            by (Some v) point = point

        abbrev read : ReadPlace
        read = record { variable = placed.variable; map = placed.map; scope = placed.scope }

        abbrev place : Place
        place = record { part = access_to placed.variable placed.map; scope = placed.scope }

        same : placed.variable ≡ y
        same = placed.hit.same_variable

        in_equations : Contains p.equations d.equation × ((d.equation.variable == u.variable) ≡ true)
        in_equations = found-in (λ (e : Equation). e.variable == u.variable) p.equations d.equation d.found

        own : d.equation.variable ≡ u.variable
        own = eqb-true d.equation.variable u.variable in_equations.1

        listed : Contains (reads_of p d.equation) read
        listed = mapped-in (read_at p.variables) (places_of p d.equation) place read in_places is_read
          where
            in_places : Contains (places_of p d.equation) place
            in_places =
                subst (λ o. Contains (option_map_or (λ (v : Variable). places (term d.equation.body) (body_scope p v)) o []) place)
                (sym (ap (slice_get p.variables) own ∙ d.declared)) placed.here

            is_read : read_at p.variables place ≡ Some read
            is_read = ap (λ b. if b then Some read else None) (subst (λ x. of_variable p.variables (λ (v : Variable). not (is_input v.role)) x ≡ true) (sym same) written)

        -- the points of the read are those of the two instances
        read_is : take count placed.point ++ image_of placed.map placed.point ≡ g.params ++ l
        read_is i = placed.hit.same_parameters i ++ placed.hit.same_indices i

        own_width : (domain_of p u.variable).width ≡ length z
        own_width = ap (λ o. (option_map_or (λ (v : Variable). v.domain) o (record { width = 0; disjuncts = [] })).width) d.declared ∙ sym full

        own_is : (k : List ℤ) → take (domain_of p u.variable).width ((z ++ placed.more) ++ k) ≡ z
        own_is k = ap (λ n. take n ((z ++ placed.more) ++ k)) own_width ∙ (ap (take (length z)) (append_assoc z placed.more k) ∙ take-append_seam z (placed.more ++ k))

        -- it is before the instance
        pub read-before : InstanceBefore g (instance y l) u
        read-before =
            let order = certified_gives_order g.program g.mapping is.map in
            let here : IsTimely p g.mapping d.equation.variable read =
            All-contains (IsTimely p g.mapping d.equation.variable) (reads_of p d.equation) read
            (All-contains (λ (e : Equation). All (IsTimely p g.mapping e.variable) (reads_of p e)) p.equations d.equation order.timely in_equations.0) listed in
            let there = here placed.point placed.long placed.in_force in
            let a = take count placed.point ++ image_of placed.map placed.point in
            let whole_point : placed.point ≡ (z ++ placed.more) ++ [] = placed.longer ∙ sym (append-nil (z ++ placed.more)) in
            subst (λ x. IsBefore g.mapping x (g.params ++ l) u.variable z) same
            (subst (λ q. IsBefore g.mapping placed.variable q u.variable z) read_is
            (subst (λ q. IsBefore g.mapping placed.variable a u.variable q) (ap (take (domain_of p u.variable).width) whole_point ∙ own_is [])
            (subst (λ x. IsBefore g.mapping placed.variable a x (take (domain_of p x).width placed.point)) own there)))

        -- and what may be stored in its cell is before it, or isn't before the instance is done
        module _ (w : Instance) (one : IsInstance p g.params w) (space : shares_space g.mapping y w.variable ≡ true)
            (cell : MayShare (storage_of g.mapping y).factors (cell_at g.mapping w.variable (g.params ++ w.point)) (cell_at g.mapping y (g.params ++ l))) where
          abbrev Beside : ℕ → List ℤ → ℕ → List ℤ → List ℤ → Type 0
          Beside ry a rx c b =
              SharesCell p g.mapping w.variable b ry a → (IsSame w.variable b ry a ⊎ IsBefore g.mapping w.variable b ry a) ⊎ (IsSame w.variable b rx c ⊎ IsBefore g.mapping rx c w.variable b)

          declared_within : w.variable < length p.variables
          declared_within = let e = defined w one in slice_get_within p.variables w.variable e.variable e.declared

          writer : Contains (writers_of p g.mapping placed.variable) w.variable
          writer = passed-in (shares_space g.mapping placed.variable) (range_with_len 0 (length p.variables)) w.variable (below-in (length p.variables) w.variable declared_within)
              (subst (λ x. shares_space g.mapping x w.variable ≡ true) (sym same) space)

          abbrev joined : List ℤ
          joined = placed.point ++ w.point

          front : take placed.scope.width joined ≡ placed.point
          front = ap (λ n. take n joined) (sym placed.long) ∙ take-append_seam placed.point w.point

          back : drop placed.scope.width joined ≡ w.point
          back = ap (λ n. drop n joined) (sym placed.long) ∙ drop-append_seam placed.point w.point

          joined_is : joined ≡ (z ++ placed.more) ++ w.point
          joined_is i = placed.longer i ++ w.point

          joined_first : take count joined ≡ g.params
          joined_first =
              ap (take count) (joined_is ∙ append_assoc z placed.more w.point ∙ append_assoc g.params u.point (placed.more ++ w.point))
              ∙ (ap (λ n. take n (g.params ++ (u.point ++ (placed.more ++ w.point)))) (sym is.count) ∙ take-append_seam g.params (u.point ++ (placed.more ++ w.point)))

          beside : Beside y (g.params ++ l) u.variable z (g.params ++ w.point)
          beside =
              let order = certified_gives_order g.program g.mapping is.map in
              let here : IsSafeBeside p g.mapping d.equation.variable read w.variable =
              All-contains (IsSafeBeside p g.mapping d.equation.variable read) (writers_of p g.mapping read.variable) w.variable
              (All-contains (λ (r : ReadPlace). All (IsSafeBeside p g.mapping d.equation.variable r) (writers_of p g.mapping r.variable)) (reads_of p d.equation) read
              (All-contains (λ (e : Equation). All (λ (r : ReadPlace). All (IsSafeBeside p g.mapping e.variable r) (writers_of p g.mapping r.variable)) (reads_of p e)) p.equations d.equation order.safe in_equations.0)
              listed) writer in
              let member = one.point.member.0 in
              let there = here joined (omega (arith, length-append placed.point w.point, placed.long, member)) (subst (λ q. IsInContext placed.scope.domains q) (sym front) placed.in_force) in
              let a = take count (take placed.scope.width joined) ++ image_of placed.map (take placed.scope.width joined) in
              let b = take count joined ++ drop placed.scope.width joined in
              let b_is : b ≡ g.params ++ w.point = (λ i. joined_first i ++ back i) in
              let a_is : a ≡ g.params ++ l = (λ i. take count (front i) ++ image_of placed.map (front i)) ∙ read_is in
              let c_is : take (domain_of p u.variable).width joined ≡ z = ap (take (domain_of p u.variable).width) joined_is ∙ own_is w.point in
              subst (λ x. Beside x (g.params ++ l) u.variable z (g.params ++ w.point)) same
              (subst (λ q. Beside placed.variable q u.variable z (g.params ++ w.point)) a_is
              (subst (λ q. Beside placed.variable a u.variable z q) b_is
              (subst (λ q. Beside placed.variable a u.variable q b) c_is
              (subst (λ x. Beside placed.variable a x (take (domain_of p x).width joined) b) own there))))

          one_instance : (v : Instance) → IsSame w.variable (g.params ++ w.point) v.variable (g.params ++ v.point) → w ≡ v
          one_instance v e = let points : w.point ≡ v.point = append_cancel_left g.params w.point v.point e.1 in (λ i. instance (e.0 i) (points i))

          pub read-safe : ((w ≡ instance y l) ⊎ InstanceBefore g w (instance y l)) ⊎ ((w ≡ u) ⊎ InstanceBefore g u w)
          read-safe = elim (beside (one.point.member.1, cell)) as (λ _. ((w ≡ instance y l) ⊎ InstanceBefore g w (instance y l)) ⊎ ((w ≡ u) ⊎ InstanceBefore g u w)) [
            | inl there ↦ elim there as (λ _. ((w ≡ instance y l) ⊎ InstanceBefore g w (instance y l)) ⊎ ((w ≡ u) ⊎ InstanceBefore g u w)) [
              | inl same_one ↦ inl (inl (one_instance (instance y l) same_one))
              | inr earlier ↦ inl (inr earlier)
            ]
            | inr here ↦ elim here as (λ _. ((w ≡ instance y l) ⊎ InstanceBefore g w (instance y l)) ⊎ ((w ≡ u) ⊎ InstanceBefore g u w)) [
              | inl same_one ↦ inr (inl (one_instance u same_one))
              | inr later ↦ inr (inr later)
            ]
          ]
