-- The branches of a case, one after another: where the first ones don't hold the point, the case is what the others are.
use Rattle.std.proofs.Common.{◌≡◌, ℕ, suc, ◌<◌, ◌≤◌, List, ◌∷◌, drop, drop-cons, drop_of_length-le, sym, ap, subst, ◌∙◌, arith, inl, inr, ⊎_elim}
use Rattle.std.specs.Prelude.{ℤ, slice_index_or, length, Result, Ok, Err}
use Rattle.az_lin.specs.Affine.{Union, HoldsSome}
use Rattle.az_ast.specs.Dependences.{EvaluatesBranch}
use Rattle.az_ast.specs.Nodes.{nodes, nodes_below}
use Rattle.az_ast.specs.System.{System}
use Rattle.az_ast.specs.Tables.{Tables}
use Rattle.az_ast.specs.Term.{Term, cases, Choices, choice, term}
use Rattle.az_ast.specs.declared.expr.Branch.{Branch}
use Rattle.az_ast.specs.declared.expr.Expr.{Expr}
use Rattle.az_ast.specs.declared.expr.Expr.TheVariants.{Cases}
use Rattle.az_ast.proofs.Terms.{term-Cases}
use Rattle.az_ast.proofs.Walks.{below}
use Rattle.equation_meaning.specs.Counts.{TermCounts, ChoiceCounts}
use Rattle.loop_scan.specs.declared.fault.ScanFault.{ScanFault}
use Rattle.plan_words.specs.Makes.{Find, TermMakes, ChoiceMakes}
use Rattle.plan_steps.specs.Inner.Laid.{IsReadyAt, AreReadyAt, Lays, Fails, LayAnswers}
use Rattle.plan_steps.specs.Layouts.{Layout}
use Rattle.plan_steps.specs.Settled.{EvaluatesAt}
use Rattle.plan_steps.proofs.Forms.{more-fits}
use Rattle.value_walk.specs.Chains.{IsReduction}

abbrev pub ChoicesEvaluate : Choices → List ℤ → ℕ → Union → List ℤ → Type 0
ChoicesEvaluate branches z extra domain outer = EvaluatesBranch (IsReduction extra domain outer) branches z

module _ (p : System) (tables : Tables) where
  -- an expression is what these branches are at the point
  pub record IsLeft (e : Term) (z : List ℤ) (branches : Choices) : Type 0 where
    pub ready : AreReadyAt p tables branches z
    pub small : nodes_below branches < nodes e
    pub makes_from : (finds : List Find) (v : ℤ) → ChoiceMakes p tables branches z finds v → TermMakes p tables e z finds v
    pub makes_to : (finds : List Find) (v : ℤ) → TermMakes p tables e z finds v → ChoiceMakes p tables branches z finds v
    pub counts_from : (n : ℕ) → ChoiceCounts branches z n → TermCounts e z n
    pub counts_to : (n : ℕ) → TermCounts e z n → ChoiceCounts branches z n
    pub evaluates_from : (x : ℕ) (d : Union) (o : List ℤ) → ChoicesEvaluate branches z x d o → EvaluatesAt e z x d o
    pub evaluates_to : (x : ℕ) (d : Union) (o : List ℤ) → EvaluatesAt e z x d o → ChoicesEvaluate branches z x d o

  whole : (branches : Choices) (z : List ℤ) → AreReadyAt p tables branches z → IsLeft (cases branches) z branches
  whole branches z ready = record {
    ready = ready;
    small = omega arith;
    makes_from = λ finds v m. m;
    makes_to = λ finds v m. m;
    counts_from = λ n c. c;
    counts_to = λ n c. c;
    evaluates_from = λ x d o m. m;
    evaluates_to = λ x d o m. m;
  }

  pub all-left : (e : Expr) (branches items : List Branch) (z : List ℤ) → e ≡ Cases branches → items ≡ branches → IsReadyAt p tables (term e) z → IsLeft (term e) z (below (drop 0 items))
  all-left e branches items z is same ready =
      let form : term e ≡ cases (below items) = ap term is ∙ (term-Cases branches ∙ ap (λ bs. cases (below bs)) (sym same)) in
      subst (λ t. IsLeft t z (below items)) (sym form) (whole (below items) z (subst (λ t. IsReadyAt p tables t z) form ready))

  passed : (e : Term) (z : List ℤ) (domain : Union) (body : Term) (rest : Choices) → (HoldsSome domain z → ⊥) → IsLeft e z (choice domain body rest) → IsLeft e z rest
  passed e z domain body rest out left = record {
    ready = left.ready.2 out;
    small = omega (arith, left.small);
    makes_from = λ finds v m. left.makes_from finds v (inr (out, m));
    makes_to = λ finds v m. ⊎_elim (λ s. absurd (out s.0)) (λ t. t.1) (left.makes_to finds v m);
    counts_from = λ n c. left.counts_from n (inr (out, c));
    counts_to = λ n c. ⊎_elim (λ s. absurd (out s.0)) (λ t. t.1) (left.counts_to n c);
    evaluates_from = λ x d o m. left.evaluates_from x d o (inr (out, m));
    evaluates_to = λ x d o m. ⊎_elim (λ s. absurd (out s.0)) (λ t. t.1) (left.evaluates_to x d o m);
  }

  module _ (e : Term) (z : List ℤ) (branches : List Branch) (i : ℕ) (branch : Branch) (within : i < length branches) (found : branch ≡ slice_index_or branches i branch) (left : IsLeft e z (below (drop i branches))) where
    here : IsLeft e z (choice branch.domain (term branch.body) (below (drop (suc i) branches)))
    here = subst (λ bs. IsLeft e z (below bs)) (drop-cons branches i branch within ∙ ap (λ b. b ∷ drop (suc i) branches) (sym found)) left

    pub next-left : (HoldsSome branch.domain z → ⊥) → IsLeft e z (below (drop (suc i) branches))
    next-left out = passed e z branch.domain (term branch.body) (below (drop (suc i) branches)) out here

    pub branch-ready : HoldsSome branch.domain z → IsReadyAt p tables (term branch.body) z
    branch-ready held = here.ready.1 held

    pub branch-wide : branch.domain.width ≡ length z
    branch-wide = here.ready.0

    pub branch-small : nodes (term branch.body) < nodes e
    branch-small = omega (arith, here.small)

    module _ (held : HoldsSome branch.domain z) where
      pub branch-laid : (before after : Layout) → Lays p tables (term branch.body) z before after → Lays p tables e z before after
      branch-laid before after (l, h, same) = (
        l,
        record {
          value = λ found long. let one = h.value found long in (one.0, here.makes_from _ one.0 (inl (held, one.1)), one.2);
          room = more-fits (nodes (term branch.body)) (nodes e) l (omega (arith, branch-small)) h.room;
          points = here.counts_from l.points (inl (held, h.points));
          scanned = λ x d o m. ⊎_elim (λ s. h.scanned x d o s.1) (λ t. absurd (t.0 held)) (here.evaluates_to x d o m);
        },
        same,
      )

      pub branch-fails : (most_points most_loads : ℕ) (before : Layout) (fault : ScanFault) → Fails p tables (term branch.body) z most_points most_loads before fault → Fails p tables e z most_points most_loads before fault
      branch-fails most_points most_loads before fault (inl memory) = inl memory
      branch-fails most_points most_loads before fault (inr (inl refused)) =
          inr (inl (refused.0, refused.1, refused.2, here.evaluates_from refused.0 refused.1 refused.2 (inl (held, refused.3)), refused.4))
      branch-fails most_points most_loads before fault (inr (inr (inl many))) =
          inr (inr (inl (many.0, λ n c. ⊎_elim (λ s. many.1 n s.1) (λ t. absurd (t.0 held)) (here.counts_to n c))))
      branch-fails most_points most_loads before fault (inr (inr (inr many))) =
          inr (inr (inr (many.0, λ finds v m. ⊎_elim (λ s. many.1 finds v s.1) (λ t. absurd (t.0 held)) (here.makes_to finds v m))))

      pub branch-answers : {U : Type 0} (most_points most_loads : ℕ) (before after : Layout) (result : Result U ScanFault) → LayAnswers p tables (term branch.body) z most_points most_loads before after result →
          LayAnswers p tables e z most_points most_loads before after result
      branch-answers most_points most_loads before after (Ok done) h = record { lays = branch-laid before after h.lays; few_points = h.few_points; few_loads = h.few_loads }
      branch-answers most_points most_loads before after (Err fault) h = branch-fails most_points most_loads before fault h

  -- and some branch holds the point
  pub none-left : (e : Term) (z : List ℤ) (items : List Branch) (i : ℕ) → length items ≤ i → IsLeft e z (below (drop i items)) → ⊥
  none-left e z items i h left = subst (λ bs. AreReadyAt p tables (below bs) z) (drop_of_length-le items h) left.ready
