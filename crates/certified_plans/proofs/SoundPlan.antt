-- A plan that is as promised is sound.
use Rattle.std.proofs.Common.{◌≡◌, ◌⊎◌, ℕ, ◌<◌, List, [], ◌++◌, length, map, get_or, replicate, Some, sym, ap, subst, ◌∙◌, arith}
use Rattle.std.specs.Prelude.{ℤ, pos, slice_get, option_map}
use Rattle.std.proofs.lemmas.List.{length-map, length-replicate}
use Rattle.az_ast.specs.Certified.{IsFinite}
use Rattle.az_ast.specs.Dependences.{TermReads, IsRead}
use Rattle.az_ast.specs.Meaning.{body_of}
use Rattle.az_ast.specs.Term.{term}
use Rattle.az_ast.specs.declared.program.Equation.{Equation}
use Rattle.az_ast.proofs.FixedPoint.{body-means}
use Rattle.az_ast.proofs.ReadLemmas.{MatchOption-at}
use Rattle.execution.specs.Plans.{Load, Work, Plan, tiles_of, works_of, Stands, value_of}
use Rattle.execution.specs.Setting.{Setting, InstanceMeans, InstanceBefore, IsSoundPlan}
use Rattle.execution.specs.Sound.{AreFound}
use Rattle.execution.specs.declared.instance.Instance.{Instance}
use Rattle.execution.specs.declared.place.Place.{Place}
use Rattle.plan_promise.specs.Promise.{IsCertifiedSetting, finds_of, instances_of, IsPlanOf}
use Rattle.plan_words.specs.Cells.{AreOneCell}
use Rattle.plan_words.specs.Makes.{TermMakes}
use Rattle.target_map.specs.Settings.{is_written}
use Rattle.tile_waves.specs.Waves.{IsAt, IsInstance}
use Rattle.tile_waves.proofs.Earlier.{before_is_earlier}
use Rattle.tile_waves.proofs.Nested.{at_map, to_map}
use Rattle.certified_plans.proofs.CellLemmas.{one_cell_shares}
use Rattle.certified_plans.proofs.Finds.{found-read, makes-gives, loads-found, load-found}
use Rattle.certified_plans.proofs.Instances.{IsDefined, defined, no_input, is_instance, first, wide, ready_within, read-before, read-safe}
use Rattle.certified_plans.proofs.ListLemmas.{mapped-at}
use Rattle.certified_plans.proofs.OutputWriters.{output-safe}

module _ (g : Setting) (plan : Plan) (is : IsCertifiedSetting g) (made : IsPlanOf g plan) where
  abbrev instances_at : ℕ → ℕ → List Instance
  instances_at wave tile = get_or (get_or (instances_of plan) wave []) tile []

  tiles_same : (wave : ℕ) → get_or (instances_of plan) wave [] ≡ map (λ works. map (λ (w : Work). w.instance) works) (tiles_of plan wave)
  tiles_same wave = mapped-at (λ (tiles : List (List Work)). map (λ works. map (λ (w : Work). w.instance) works) tiles) [] plan.waves wave

  works_same : (wave tile : ℕ) → instances_at wave tile ≡ map (λ (w : Work). w.instance) (works_of plan wave tile)
  works_same wave tile = ap (λ tiles. get_or tiles tile []) (tiles_same wave) ∙ mapped-at (λ (works : List Work). map (λ (w : Work). w.instance) works) [] (tiles_of plan wave) tile

  -- what stands where
  pub stands-at : (q : Place) (w : Work) → Stands plan q w → IsAt (instances_of plan) q w.instance
  stands-at q w stands =
      subst (λ us. slice_get us q.number ≡ Some w.instance) (sym (works_same q.wave q.tile)) (to_map (λ (v : Work). v.instance) (works_of plan q.wave q.tile) q.number w stands)

  pub at-stands : (q : Place) (u : Instance) → IsAt (instances_of plan) q u → (w : Work) × Stands plan q w × (w.instance ≡ u)
  at-stands q u at = at_map (λ (v : Work). v.instance) (works_of plan q.wave q.tile) q.number u (subst (λ us. slice_get us q.number ≡ Some u) (works_same q.wave q.tile) at)

  pub stands-instance : (q : Place) (w : Work) → Stands plan q w → IsInstance g.program g.params w.instance
  stands-instance q w stands = made.waves.only q w.instance (stands-at q w stands)

  module _ (q : Place) (w : Work) (stands : Stands plan q w) where
    one : IsInstance g.program g.params w.instance
    one = stands-instance q w stands

    abbrev d : IsDefined g is w.instance
    d = defined g is w.instance (stands-instance q w stands)

    body_is : body_of g.program.equations w.instance.variable ≡ Some (term d.equation.body)
    body_is = ap (option_map (λ (e : Equation). term e.body)) d.found

    makes : (loaded : List ℤ) → length loaded ≡ length w.loads → TermMakes g.program g.tables (term d.equation.body) (g.params ++ w.instance.point) (finds_of w.loads loaded) (value_of w loaded)
    makes loaded long =
        MatchOption-at (λ body. TermMakes g.program g.tables body (g.params ++ w.instance.point) (finds_of w.loads loaded) (value_of w loaded))
        (body_of g.program.equations w.instance.variable) (term d.equation.body) body_is (made.values q w stands loaded long)

    pub value-means : (loaded : List ℤ) → length loaded ≡ length w.loads → AreFound (InstanceMeans g) w.loads loaded → InstanceMeans g w.instance (value_of w loaded)
    value-means loaded long found =
        body-means g.program g.tables w.instance.variable d.variable d.declared g.params w.instance.point (value_of w loaded) d.equation (no_input g is w.instance d) d.found d.point
        (makes-gives g.program g.tables g.params (λ extra domain outer. IsFinite domain (length outer) extra) (term d.equation.body) (g.params ++ w.instance.point) (finds_of w.loads loaded) (value_of w loaded)
        (wide g is w.instance d) (first g is w.instance d) (ready_within g is w.instance d) (makes loaded long)
        (λ f c. loads-found (InstanceMeans g) w.loads loaded found f c))

    -- a load names an instance that the equation reads
    module _ (j : ℕ) (load : Load) (at : slice_get w.loads j ≡ Some load) where
      read : is_written g.program load.named.variable × TermReads (length g.program.params) (IsRead load.named.variable g.params load.named.point) (term d.equation.body) (g.params ++ w.instance.point)
      read =
          let zeros = replicate (length w.loads) (pos 0) in
          let long : length zeros ≡ length w.loads = length-replicate (length w.loads) (pos 0) in
          let f = load-found w.loads zeros long j load at in
          found-read g.program g.tables g.params (term d.equation.body) (g.params ++ w.instance.point) (finds_of w.loads zeros) (value_of w zeros)
          (wide g is w.instance d) (first g is w.instance d) (makes zeros long) (record { named = load.named; value = f.0 }) f.1

      pub load-before : InstanceBefore g load.named w.instance
      load-before = read-before g is w.instance d load.named.variable load.named.point read.1 read.0

      -- it stands in the plan, in the load's cell
      pub load-named : (r : Place) × (v : Work) × Stands plan r v × (v.instance ≡ load.named) × (v.cell ≡ load.cell)
      load-named =
          let place = made.waves.every load.named (is_instance g is w.instance d load.named.variable load.named.point read.1 read.0) in
          let found = at-stands place.0 load.named place.1 in
          (place.0, found.0, found.1, found.2, sym (made.loads q w stands j load at place.0 found.0 found.1 found.2))

      pub load-safe : (r : Place) (v : Work) → Stands plan r v → v.cell ≡ load.cell →
          ((v.instance ≡ load.named) ⊎ InstanceBefore g v.instance load.named) ⊎ ((v.instance ≡ w.instance) ⊎ InstanceBefore g w.instance v.instance)
      load-safe r v there cell =
          let n = load-named in
          let shared = (made.cells n.0 r n.1 v n.2 there).0 (n.4 ∙ sym cell) in
          let named_shared : AreOneCell g.mapping g.params load.named v.instance = subst (λ u. AreOneCell g.mapping g.params u v.instance) n.3 shared in
          read-safe g is w.instance d load.named.variable load.named.point read.1 read.0 v.instance (stands-instance r v there) named_shared.space
          (one_cell_shares g.mapping is.mapping g.params load.named v.instance named_shared)

  some_work : (wave tile : ℕ) → tile < length (tiles_of plan wave) → 0 < length (works_of plan wave tile)
  some_work wave tile within =
      let tiles = ap length (tiles_same wave) ∙ length-map (tiles_of plan wave) (λ works. map (λ (w : Work). w.instance) works) in
      let works = ap length (works_same wave tile) ∙ length-map (works_of plan wave tile) (λ (w : Work). w.instance) in
      let some = made.waves.ordered.some_instance wave tile (omega (arith, tiles, within)) in
      omega (arith, some, works)

  pub sound : IsSoundPlan g plan
  sound = record {
    once = λ q r v w a b same. made.waves.once q r w.instance (subst (λ u. IsAt (instances_of plan) q u) same (stands-at q v a)) (stands-at r w b);
    order = λ q r v w a b before. before_is_earlier g.program g.mapping g.params is.mapping is.map.complete (instances_of plan) made.waves q r v.instance w.instance (stands-at q v a) (stands-at r w b) before;
    named = λ q w a j load at. load-named q w a j load at;
    dependence = λ q w a j load at. load-before q w a j load at;
    lifetime = λ q w a j load at r v b cell. load-safe q w a j load at r v b cell;
    outputs = λ q w a out r v b cell.
        let shared = (made.cells q r w v a b).0 (sym cell) in
        output-safe g is w.instance (stands-instance q w a) out v.instance (stands-instance r v b) shared.space (one_cell_shares g.mapping is.mapping g.params w.instance v.instance shared);
    values = λ q w a loaded long found. value-means q w a loaded long found;
    room = λ q w a. made.room q w a;
    tiles = λ wave tile within. some_work wave tile within;
  }
