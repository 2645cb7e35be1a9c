-- A certified program's equations can be evaluated at each of their points, whatever is asked at the accesses and reductions
-- that are reached, if it follows from what certification says there.
use Rattle.std.proofs.Common.{◌≡◌, ℕ, ◌+◌, ◌-◌, ◌≤◌, List, [], ◌∷◌, ◌++◌, length, take, Option, Some, None, refl, sym, ap, subst, ◌∙◌, arith, inl, inr, ⊎_elim, take_all, length-append, Bool, true, false, cond}
use Rattle.std.proofs.Math.Seq.{take-append_seam}
use Rattle.std.proofs.lemmas.List.{take-append-le}
use Rattle.std.proofs.lemmas.Bool.{eqb-true}
use Rattle.std.proofs.lemmas.List.Elements.{recursion_from_All}
use Rattle.std.specs.Prelude.{ℤ, All, MatchOption, slice_get, unwrap_or, ◌==◌}
use Rattle.std.specs.List.{AllByRecursion}
use Rattle.az_lin.specs.Affine.{AffineMap, Union, HoldsSome, image_of}
use Rattle.az_ast.specs.Certified.{IsCertified, IsInContext, IsFinite, OneHolds, ReadsWithin, IsSound, AreSound}
use Rattle.az_ast.specs.Dependences.{Hits, TermReads, ChoiceReads, IsRead, Evaluates, EvaluatesBranch}
use Rattle.az_ast.specs.Meaning.{equation_of}
use Rattle.az_ast.specs.Placed.{IsAtWidth, AreAtWidth}
use Rattle.az_ast.specs.Points.{IsMember}
use Rattle.std.proofs.lemmas.Option.{slice_get_within, unwrap_or-slice_get}
use Rattle.az_ast.specs.Shapes.{indices, IsProgram}
use Rattle.az_ast.specs.System.{System}
use Rattle.az_ast.specs.Term.{Term, constant, index, access, negation, binary, cases, reduction, Choices, none, choice, term}
use Rattle.az_ast.specs.Walks.{extra_under, extra_below}
use Rattle.az_ast.specs.declared.program.Equation.{Equation}
use Rattle.az_ast.specs.declared.program.Variable.{Variable}
use Rattle.az_ast.proofs.ProgramLaws.{few_indices}
use Rattle.az_ast.proofs.TermShapes.{HasShape, HaveShape, bodies-shaped, few_columns_at}
use Rattle.value_walk.specs.Chains.{IsReduction}
use Rattle.value_walk.specs.Needs.{IsReady, AreReady}

-- the domains in force are those of the first columns
abbrev AreWithin : List Union → ℕ → Type 0
AreWithin context width = AllByRecursion (λ (domain : Union). domain.width ≤ width) context

context-within : (context : List Union) (m n : ℕ) → m ≤ n → AreWithin context m → AreWithin context n
context-within [] m n h w = tt
context-within (domain ∷ context) m n h w = (omega (arith, w.0), context-within context m n h w.1)

context-kept : (context : List Union) (z k : List ℤ) → AreWithin context (length z) → IsInContext context z → IsInContext context (z ++ k)
context-kept [] z k w h = tt
context-kept (domain ∷ context) z k w h =
    (subst (λ q. HoldsSome domain q) (sym (take-append-le domain.width z k w.0)) h.0, context-kept context z k w.1 h.1)

holds-whole : (domain : Union) (z : List ℤ) → domain.width ≡ length z → HoldsSome domain z → HoldsSome domain (take domain.width z)
holds-whole domain z e h = subst (λ q. HoldsSome domain q) (sym (take_all domain.width z (omega (arith, e)))) h

-- the equation of a variable
equation-in : (P : Equation → Type 0) (equations : List Equation) (x : ℕ) (equation : Equation) → All P equations → equation_of equations x ≡ Some equation → P equation × (equation.variable ≡ x)
equation-in P equations x equation a e = go equations (recursion_from_All P equations a) e
  where
    here : (first : Equation) (rest : List Equation) (b : Bool) → (first.variable == x) ≡ b → AllByRecursion P (first ∷ rest) → cond b (Some first) (equation_of rest x) ≡ Some equation →
        (equation_of rest x ≡ Some equation → P equation × (equation.variable ≡ x)) → P equation × (equation.variable ≡ x)
    here first rest true t a e later =
        let same : first ≡ equation = ap (λ o. unwrap_or o equation) e in
        subst (λ (q : Equation). P q × (q.variable ≡ x)) same (a.0, eqb-true first.variable x t)
    here first rest false t a e later = later e

    go : (equations : List Equation) → AllByRecursion P equations → equation_of equations x ≡ Some equation → P equation × (equation.variable ≡ x)
    go [] a e = cc
    go (first ∷ rest) a e = here first rest (first.variable == x) refl a e (λ q. go rest a.1 q)

module _ (p : System) (program : IsProgram p) where
  abbrev count : ℕ
  count = length p.params

  few-rows : (x : ℕ) (f : AffineMap) → MatchOption (slice_get p.variables x) ⊥ (λ (v : Variable). length f.rows ≡ indices count v) → length f.rows ≤ 8
  few-rows x f a = by (slice_get p.variables x) refl a
    where
      by : (o : Option Variable) → slice_get p.variables x ≡ o → MatchOption o ⊥ (λ (v : Variable). length f.rows ≡ indices count v) → length f.rows ≤ 8
      by None e a = absurd a
      by (Some v) e a =
          let within = slice_get_within p.variables x v e in
          let found = sym (unwrap_or-slice_get p.variables x v) ∙ ap (λ o. unwrap_or o v) e in
          let few = subst (λ (w : Variable). indices count w ≤ 8) found (few_indices p program x v within) in
          omega (arith, a, few)

  module _ (params : List ℤ) (answered : Hits) (asked : ℕ → Union → List ℤ → Type 0) (Reached : ℕ → List ℤ → Type 0) (Met : ℕ → Union → List ℤ → Type 0)
      (answer :
      (x : ℕ) (f : AffineMap) (z : List ℤ) → take count z ≡ params → MatchOption (slice_get p.variables x) ⊥ (λ (v : Variable). length f.rows ≡ indices count v) →
      ReadsWithin p x f z → Reached x (image_of f z) → answered x (take count z) (image_of f z))
      (allow : (extra : ℕ) (domain : Union) (outer : List ℤ) → IsFinite domain (length outer) extra → Met extra domain outer → asked extra domain outer) where
    mutual
      pub ready :
          (e : Term) (context : List Union) (z : List ℤ) → AreWithin context (length z) → IsInContext context z → take count z ≡ params → count ≤ length z → length z + extra_under e ≤ 64 →
          IsAtWidth (length p.variables) e (length z) → HasShape count p.variables e → IsSound p e context (length z) →
          ((y : ℕ) (l : List ℤ) → TermReads count (IsRead y params l) e z → Reached y l) →
          ((extra : ℕ) (domain : Union) (outer : List ℤ) → Evaluates (IsReduction extra domain outer) e z → Met extra domain outer) → IsReady count answered asked e z
      ready (constant c) context z w i same n few at shape sound reads evals = tt
      ready (index row) context z w i same n few at shape sound reads evals = at
      ready (access x f) context z w i same n few at shape sound reads evals =
          (at.1, few-rows x f shape, answer x f z same shape (sound z refl i) (reads x (image_of f z) (record { same_variable = refl; same_parameters = same; same_indices = refl })))
      ready (negation e) context z w i same n few at shape sound reads evals = ready e context z w i same n few at shape sound reads evals
      ready (binary op a b) context z w i same n few at shape sound reads evals = (
        ready a context z w i same n (omega arith) at.0 shape.0 sound.0 (λ y l r. reads y l (inl r)) (λ e d o r. evals e d o (inl r)),
        ready b context z w i same n (omega arith) at.1 shape.1 sound.1 (λ y l r. reads y l (inr r)) (λ e d o r. evals e d o (inr r)),
      )
      ready (cases branches) context z w i same n few at shape sound reads evals = ready-branches branches context z w i same n few at shape sound.1 (sound.0 z refl i) reads evals
      ready (reduction op extra domain e) context z w i same n few at shape sound reads evals = (
        shape.0,
        at.0,
        omega (arith, at.0, few),
        allow extra domain z sound.0 (evals extra domain z (inl (record { same_extra = refl; same_domain = refl; same_outer = refl }))),
        λ k m.
            let whole : length (z ++ k) ≡ length z + extra = length-append z k ∙ ap (λ q. length z + q) m.0 in
            let wide : domain.width ≡ length (z ++ k) = at.0 ∙ sym whole in
            ready e (domain ∷ context) (z ++ k) (omega (arith, wide), context-within context (length z) (length (z ++ k)) (omega (arith, whole)) w)
            (holds-whole domain (z ++ k) wide m.1, context-kept context z k w i)
            (take-append-le count z k n ∙ same) (omega (arith, whole)) (omega (arith, whole, few))
            (subst (λ q. IsAtWidth (length p.variables) e q) (sym whole) at.2) shape.1 (subst (λ q. IsSound p e (domain ∷ context) q) (sym whole) sound.1)
            (λ y l r. reads y l (k, m, r)) (λ x d o r. evals x d o (inr (k, m, r))),
      )

      ready-branches :
          (branches : Choices) (context : List Union) (z : List ℤ) → AreWithin context (length z) → IsInContext context z → take count z ≡ params → count ≤ length z → length z + extra_below branches ≤ 64 →
          AreAtWidth (length p.variables) branches (length z) → HaveShape count p.variables branches → AreSound p branches context (length z) → OneHolds branches z →
          ((y : ℕ) (l : List ℤ) → ChoiceReads count (IsRead y params l) branches z → Reached y l) →
          ((extra : ℕ) (domain : Union) (outer : List ℤ) → EvaluatesBranch (IsReduction extra domain outer) branches z → Met extra domain outer) → AreReady count answered asked branches z
      ready-branches none context z w i same n few at shape sound one reads evals = one
      ready-branches (choice domain e rest) context z w i same n few at shape sound one reads evals = (
        at.0,
        (λ h. ready e (domain ∷ context) z (omega (arith, at.0), w) (holds-whole domain z at.0 h, i) same n (omega arith) at.1 shape.0 sound.0 (λ y l r. reads y l (inl (h, r))) (λ x d o r. evals x d o (inl (h, r)))),
        (λ no. ready-branches rest context z w i same n (omega arith) at.2 shape.1 sound.1 (⊎_elim (λ here. absurd (no here.0)) (λ there. there.1) one)
            (λ y l r. reads y l (inr (no, r))) (λ x d o r. evals x d o (inr (no, r)))),
      )

  module _ (certified : IsCertified p) where
    abbrev IsFit : Variable → Equation → Type 0
    IsFit v equation =
        IsAtWidth (length p.variables) (term equation.body) v.domain.width × HasShape count p.variables (term equation.body) ×
        IsSound p (term equation.body) (v.domain ∷ p.pdom ∷ []) v.domain.width × (v.domain.width + extra_under (term equation.body) ≤ 24)

    fit : (x : ℕ) (v : Variable) (equation : Equation) → slice_get p.variables x ≡ Some v → equation_of p.equations x ≡ Some equation → IsFit v equation
    fit x v equation declared found =
        let placed = equation-in (λ (q : Equation). MatchOption (slice_get p.variables q.variable) ⊥ (λ (w : Variable). IsAtWidth (length p.variables) (term q.body) w.domain.width)) p.equations x equation program.placed.bodies found in
        let shaped = equation-in (λ (q : Equation). HasShape count p.variables (term q.body)) p.equations x equation (bodies-shaped p program) found in
        let sound = equation-in (λ (q : Equation). MatchOption (slice_get p.variables q.variable) ⊥ (λ (w : Variable). IsSound p (term q.body) (w.domain ∷ p.pdom ∷ []) w.domain.width)) p.equations x equation certified.sound found in
        let few = equation-in (λ (q : Equation). (w : Variable) → slice_get p.variables q.variable ≡ Some w → w.domain.width + extra_under (term q.body) ≤ 24) p.equations x equation (λ k d h w s. few_columns_at p program k d h w s) found in
        let own : slice_get p.variables equation.variable ≡ Some v = ap (slice_get p.variables) shaped.1 ∙ declared in (
          subst (λ o. MatchOption o ⊥ (λ (w : Variable). IsAtWidth (length p.variables) (term equation.body) w.domain.width)) own placed.0,
          shaped.0,
          subst (λ o. MatchOption o ⊥ (λ (w : Variable). IsSound p (term equation.body) (w.domain ∷ p.pdom ∷ []) w.domain.width)) own sound.0,
          few.0 v own,
        )

    module _ (params : List ℤ) (long : length params ≡ count) (x : ℕ) (v : Variable) (declared : slice_get p.variables x ≡ Some v) (k : List ℤ) (m : IsMember v.domain params (v.domain.width - count) k) where
      pub whole : length (params ++ k) ≡ v.domain.width
      whole =
          let first = program.placed.domains x v (slice_get_within p.variables x v declared) in
          let found = sym (unwrap_or-slice_get p.variables x v) ∙ ap (λ o. unwrap_or o v) declared in
          let wide = subst (λ (w : Variable). count ≤ w.domain.width) found first in
          length-append params k ∙ omega (arith, m.0, long, wide)

      first : take count (params ++ k) ≡ params
      first = subst (λ n. take n (params ++ k) ≡ params) long (take-append_seam params k)

      module _ (equation : Equation) (found : equation_of p.equations x ≡ Some equation) where
        pub few-columns : length (params ++ k) ≤ 24
        few-columns = let f = fit x v equation declared found in omega (arith, whole, f.3)

        module _ (inside : HoldsSome p.pdom params) (answered : Hits) (asked : ℕ → Union → List ℤ → Type 0) (Reached : ℕ → List ℤ → Type 0) (Met : ℕ → Union → List ℤ → Type 0)
            (answer :
            (y : ℕ) (f : AffineMap) (z : List ℤ) → take count z ≡ params → MatchOption (slice_get p.variables y) ⊥ (λ (w : Variable). length f.rows ≡ indices count w) →
            ReadsWithin p y f z → Reached y (image_of f z) → answered y (take count z) (image_of f z))
            (allow : (extra : ℕ) (domain : Union) (outer : List ℤ) → IsFinite domain (length outer) extra → Met extra domain outer → asked extra domain outer) where
          pub body-ready :
              ((y : ℕ) (l : List ℤ) → TermReads count (IsRead y params l) (term equation.body) (params ++ k) → Reached y l) →
              ((extra : ℕ) (domain : Union) (outer : List ℤ) → Evaluates (IsReduction extra domain outer) (term equation.body) (params ++ k) → Met extra domain outer) →
              IsReady count answered asked (term equation.body) (params ++ k)
          body-ready reads evals =
              let f = fit x v equation declared found in
              ready params answered asked Reached Met answer allow (term equation.body) (v.domain ∷ p.pdom ∷ []) (params ++ k)
              (omega (arith, whole), (omega (arith, whole, program.placed.parameters, length-append params k, long), tt))
              (holds-whole v.domain (params ++ k) (sym whole) m.1, (subst (λ q. HoldsSome p.pdom q) (sym (ap (λ n. take n (params ++ k)) program.placed.parameters ∙ first)) inside, tt))
              first (omega (arith, length-append params k, long)) (omega (arith, whole, f.3))
              (subst (λ n. IsAtWidth (length p.variables) (term equation.body) n) (sym whole) f.0) f.1
              (subst (λ n. IsSound p (term equation.body) (v.domain ∷ p.pdom ∷ []) n) (sym whole) f.2) reads evals
