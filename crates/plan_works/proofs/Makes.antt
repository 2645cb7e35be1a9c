-- A settled body is the work of its instance.
use Rattle.std.proofs.Common.{◌≡◌, ⊎_elim, List, [], ◌∷◌, ◌++◌, length, map, Option, Some, None, refl, sym, ap, subst, ◌∙◌, arith, replicate}
use Rattle.std.specs.Prelude.{ℤ, pos, Contains, All, MatchOption, option_map}
use Rattle.std.proofs.lemmas.List.{length-map, length-replicate}
use Rattle.std.proofs.lemmas.List.Elements.{All-nil, All-cons}
use Rattle.az_ast.specs.Meaning.{body_of}
use Rattle.az_ast.specs.Term.{Term, term}
use Rattle.az_ast.specs.declared.program.Equation.{Equation}
use Rattle.certified_plans.proofs.Finds.{found-read}
use Rattle.certified_plans.proofs.Instances.{defined, wide, first, is_instance}
use Rattle.execution.specs.Bodies.{body_value}
use Rattle.execution.specs.Plans.{Work}
use Rattle.execution.specs.Setting.{Setting}
use Rattle.execution.specs.declared.instance.Instance.{Instance}
use Rattle.loop_scan.proofs.Lists.{first_or_rest, Contains-first, Contains-rest, none_contained}
use Rattle.plan_cells.specs.Laws.{cell_of}
use Rattle.plan_cells.specs.Numbering.{Numbers}
use Rattle.plan_promise.specs.Promise.{IsCertifiedSetting, InstanceMakes, finds_of}
use Rattle.plan_steps.specs.Layouts.{Layout, finds_at}
use Rattle.plan_steps.specs.Settled.{IsSettled, AtBody, most_height}
use Rattle.plan_steps.specs.Runs.{Runs}
use Rattle.plan_words.specs.Makes.{Find, TermMakes}
use Rattle.plan_works.specs.WorkOf.{load_of, IsLoad, IsWorkOf}
use Rattle.tile_waves.specs.Waves.{IsInstance}

-- what holds of a body in any case
pub at-body : (o : Option Term) (P Q : Term → Type 0) → ((e : Term) → P e → Q e) → MatchOption o ⊥ P → MatchOption o ⊥ Q
at-body None P Q f h = absurd h
at-body (Some e) P Q f h = f e h

taken-out : (o : Option Term) (C : Type 0) (P : Term → Type 0) → ((e : Term) → P e → C) → MatchOption o ⊥ P → C
taken-out None C P f h = absurd h
taken-out (Some e) C P f h = f e h

found-with : (loads : List Instance) (found : List ℤ) → length found ≡ length loads → (u : Instance) → Contains loads u → (v : ℤ) × Contains (finds_at loads found) (record { named = u; value = v })
found-with [] found long u c = absurd (none_contained u c)
found-with (w ∷ loads) [] long u c = absurd (omega (arith, long))
found-with (w ∷ loads) (x ∷ found) long u c = ⊎_elim
    (λ same. (x, subst (λ q. Contains (finds_at (w ∷ loads) (x ∷ found)) (record { named = q; value = x })) (sym same) (Contains-first (record { named = w; value = x }) (finds_at loads found))))
    (λ later. let rest = found-with loads found (omega (arith, long)) u later in (rest.0, Contains-rest (record { named = w; value = x }) (finds_at loads found) (record { named = u; value = rest.0 }) rest.1))
    (first_or_rest w loads u c)

module _ (g : Setting) (is : IsCertifiedSetting g) (numbers : Numbers) where
  -- what an instance finds are instances
  find-is-instance : (u : Instance) → IsInstance g.program g.params u → (finds : List Find) (v : ℤ) → InstanceMakes g u finds v → (f : Find) → Contains finds f → IsInstance g.program g.params f.named
  find-is-instance u one finds v makes f c =
      let d = defined g is u one in
      let body : body_of g.program.equations u.variable ≡ Some (term d.equation.body) = ap (option_map (λ (q : Equation). term q.body)) d.found in
      let here : TermMakes g.program g.tables (term d.equation.body) (g.params ++ u.point) finds v
      = subst (λ o. MatchOption o ⊥ (λ e. TermMakes g.program g.tables e (g.params ++ u.point) finds v)) body makes in
      let found = found-read g.program g.tables g.params (term d.equation.body) (g.params ++ u.point) finds v (wide g is u d) (first g is u d) here f c in
      is_instance g is u d f.named.variable f.named.point found.1 found.0

  same-finds : (us : List Instance) (loaded : List ℤ) → finds_of (map (load_of g numbers) us) loaded ≡ finds_at us loaded
  same-finds [] loaded = refl
  same-finds (u ∷ us) [] = refl
  same-finds (u ∷ us) (v ∷ loaded) = ap (λ (fs : List Find). record { named = u; value = v } ∷ fs) (same-finds us loaded)

  module _ (u : Instance) (one : IsInstance g.program g.params u) (l : Layout) (h : AtBody g.program g.tables u.variable (λ e. IsSettled g.program g.tables e (g.params ++ u.point) l)) where
    makes-at : (loaded : List ℤ) → length loaded ≡ length l.loads → InstanceMakes g u (finds_at l.loads loaded) (body_value l.steps l.constants loaded)
    makes-at loaded long = at-body (body_of g.program.equations u.variable) (λ e. IsSettled g.program g.tables e (g.params ++ u.point) l)
        (λ e. TermMakes g.program g.tables e (g.params ++ u.point) (finds_at l.loads loaded) (body_value l.steps l.constants loaded)) (λ e s. s.value loaded long) h

    pub load-is-instance : (v : Instance) → Contains l.loads v → IsInstance g.program g.params v
    load-is-instance v c =
        let zeros = replicate (length l.loads) (pos 0) in
        let long : length zeros ≡ length l.loads = length-replicate (length l.loads) (pos 0) in
        let found = found-with l.loads zeros long v c in
        find-is-instance u one (finds_at l.loads zeros) (body_value l.steps l.constants zeros) (makes-at zeros long) (record { named = v; value = found.0 }) found.1

    all-loads : (us : List Instance) → ((v : Instance) → Contains us v → IsInstance g.program g.params v) → All (IsLoad g numbers) (map (load_of g numbers) us)
    all-loads [] each = All-nil (IsLoad g numbers)
    all-loads (v ∷ us) each =
        All-cons (IsLoad g numbers) (load_of g numbers v) (map (load_of g numbers) us) (record { instance = each v (Contains-first v us); cell = refl }) (all-loads us (λ w c. each w (Contains-rest v us w c)))

    pub work-is : (w : Work) → w.instance ≡ u → w.loads ≡ map (load_of g numbers) l.loads → w.cell ≡ cell_of g.mapping g.params numbers u → w.steps ≡ l.steps → w.constants ≡ l.constants → IsWorkOf g numbers u w
    work-is w instance loads cell steps constants = record {
      instance = instance;
      values = λ loaded long.
          let all : length loaded ≡ length l.loads = long ∙ (ap length loads ∙ length-map l.loads (load_of g numbers)) in
          let finds : finds_of w.loads loaded ≡ finds_at l.loads loaded = ap (λ ls. finds_of ls loaded) loads ∙ same-finds l.loads loaded in
          let value : body_value w.steps w.constants loaded ≡ body_value l.steps l.constants loaded = λ i. body_value (steps i) (constants i) loaded in
          subst (λ (q : Instance). InstanceMakes g q (finds_of w.loads loaded) (body_value w.steps w.constants loaded)) (sym instance)
          (subst (λ fs. InstanceMakes g u fs (body_value w.steps w.constants loaded)) (sym finds) (subst (λ v. InstanceMakes g u (finds_at l.loads loaded) v) (sym value) (makes-at loaded all)));
      loads = subst (λ ls. All (IsLoad g numbers) ls) (sym loads) (all-loads l.loads load-is-instance);
      cell = cell;
    }

    pub work-runs : (w : Work) → w.loads ≡ map (load_of g numbers) l.loads → w.steps ≡ l.steps → w.constants ≡ l.constants → Runs most_height w.steps (length w.constants) (length w.loads) 0
    work-runs w loads steps constants =
        let runs = taken-out (body_of g.program.equations u.variable) (Runs most_height l.steps (length l.constants) (length l.loads) 0) (λ e. IsSettled g.program g.tables e (g.params ++ u.point) l) (λ e s. s.runs) h in
        let long : length l.loads ≡ length w.loads = sym (ap length loads ∙ length-map l.loads (load_of g numbers)) in
        subst (λ n. Runs most_height w.steps (length w.constants) n 0) long (subst (λ cs. Runs most_height w.steps (length cs) (length l.loads) 0) (sym constants) (subst (λ ss. Runs most_height ss (length l.constants) (length l.loads) 0) (sym steps) runs))
