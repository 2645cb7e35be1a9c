-- What is laid out for an expression, form by form.
use Rattle.std.proofs.Common.{◌≡◌, ℕ, ◌+◌, ◌≤◌, List, [], ◌∷◌, ◌++◌, length, sym, ap, subst, ◌∙◌, arith, inl, inr, ◌⊎◌, length-append, All, Result, Ok, Err}
use Rattle.std.specs.Prelude.{ℤ, Contains}
use Rattle.az_lin.specs.Affine.{Affine, AffineMap, Union, value_at, image_of}
use Rattle.az_ast.specs.Operators.{wrapped, FoldsFromIdentity}
use Rattle.az_ast.specs.System.{System}
use Rattle.az_ast.specs.Tables.{Tables}
use Rattle.az_ast.specs.Term.{Term, constant, index, access, negation, binary, reduction, term}
use Rattle.az_ast.specs.declared.expr.Expr.{Expr}
use Rattle.az_ast.specs.declared.expr.Expr.TheVariants.{Const, Index, Access, Neg, Bin, Reduce}
use Rattle.az_ast.specs.declared.op.Op.{Op}
use Rattle.az_ast.proofs.Members.{All-Contains}
use Rattle.az_ast.proofs.Terms.{term-Const, term-Index, term-Access, term-Neg, term-Bin, term-Reduce}
use Rattle.az_ast.specs.Points.{IsMember, AreMembers}
use Rattle.execution.specs.declared.step.Step.TheVariants.{Negated, Binary}
use Rattle.loop_scan.specs.Boxes.{Refuses}
use Rattle.loop_scan.specs.Members.{Scan, IsScan, IsPoint, indices}
use Rattle.az_lin.specs.declared.limit.Limit.TheVariants.{Loads}
use Rattle.loop_scan.specs.declared.fault.ScanFault.{ScanFault}
use Rattle.loop_scan.specs.declared.fault.ScanFault.TheVariants.{Limit, Memory}
use Rattle.plan_steps.specs.Inner.Laid.{IsReadyAt, Lays, IsWithin, LayAnswers, FoldAnswers, ReadAnswers, Fails, LacksLoad}
use Rattle.plan_steps.specs.Layouts.{Layout, empty, joined, with_constant, with_load, with_step}
use Rattle.plan_steps.specs.Settled.{IsScanned}
use Rattle.plan_steps.proofs.Failures.{left-fails, right-fails, fold-fails, scan-fails}
use Rattle.plan_steps.proofs.Folds.{reduction-laid}
use Rattle.plan_steps.proofs.Forms.{constant_layout, load_layout, constant-laid, index-laid, input-laid, load-laid, negation-laid, binary-laid}
use Rattle.plan_steps.proofs.Layouts.{joined-empty, joined-assoc, constant-behind, load-behind, step-behind}
use Rattle.plan_steps.proofs.Uniqueness.{makes-long}
use Rattle.plan_words.specs.Makes.{find_of, AccessMakes, TermMakes}

constant-whole : (before after : Layout) (v : ℤ) → after ≡ with_constant before v → after ≡ joined before (constant_layout v)
constant-whole before after v pushed = pushed ∙ (ap (λ l. with_constant l v) (joined-empty before) ∙ constant-behind before empty v)

module _ (p : System) (tables : Tables) (e : Expr) (z : List ℤ) (most_points most_loads : ℕ) (before : Layout) (few_points : before.points ≤ most_points) (few_loads : length before.loads ≤ most_loads) where
  abbrev Answered : Layout → Type 0
  Answered after = IsWithin p tables most_points most_loads (Lays p tables (term e) z before after) after

  -- an expression that is this term
  given : (after : Layout) (t : Term) → term e ≡ t → Lays p tables t z before after → after.points ≤ most_points → length after.loads ≤ most_loads → Answered after
  given after t is lays points loads = record { lays = subst (λ s. Lays p tables s z before after) (sym is) lays; few_points = points; few_loads = loads }

  module _ (after : Layout) (v : ℤ) (pushed : after ≡ with_constant before v) where
    points-kept : after.points ≤ most_points
    points-kept = omega (arith, few_points, ap (λ (q : Layout). q.points) pushed)

    loads-kept : length after.loads ≤ most_loads
    loads-kept = omega (arith, few_loads, ap (λ (q : Layout). length q.loads) pushed)

    pub const-answers : e ≡ Const v → Answered after
    const-answers is = given after (constant v) (ap term is ∙ term-Const v) (constant_layout v, constant-laid p tables v z, constant-whole before after v pushed) points-kept loads-kept

    pub index-answers : (row : Affine) → e ≡ Index row → v ≡ wrapped (value_at row z) → Answered after
    index-answers row is value = given after (index row) (ap term is ∙ term-Index row) (constant_layout v, index-laid p tables row z v value, constant-whole before after v pushed) points-kept loads-kept

  pub access-answers : {U : Type 0} (after : Layout) (x : ℕ) (f : AffineMap) (k : List ℤ) (done : U) → e ≡ Access x f → k ≡ image_of f z → ReadAnswers p tables x k most_loads before after (Ok done) → Answered after
  access-answers after x f k done is image (inl t) =
      given after (access x f) (ap term is ∙ term-Access x f)
      (constant_layout t.value, input-laid p tables x f z t.value (subst (λ q. AccessMakes p tables x q [] t.value) image t.makes), constant-whole before after t.value t.laid)
      (points-kept after t.value t.laid) (loads-kept after t.value t.laid)
  access-answers after x f k done is image (inr t) =
      given after (access x f) (ap term is ∙ term-Access x f)
      (load_layout (record { variable = x; point = k }), load-laid p tables x f z k image t.makes, t.laid ∙ (ap (λ l. with_load l (record { variable = x; point = k })) (joined-empty before) ∙ load-behind before empty (record { variable = x; point = k })))
      (omega (arith, few_points, ap (λ (q : Layout). q.points) t.laid))
      (omega (arith, t.room, ap (λ (q : Layout). length q.loads) t.laid, length-append before.loads (record { variable = x; point = k } ∷ [])))

  pub access-fails : (x : ℕ) (f : AffineMap) (k : List ℤ) (fault : ScanFault) → e ≡ Access x f → k ≡ image_of f z → (fault ≡ Memory) ⊎ ((fault ≡ Limit Loads) × LacksLoad p tables x k most_loads before) →
      Fails p tables (term e) z most_points most_loads before fault
  access-fails x f k fault is image (inl memory) = inl memory
  access-fails x f k fault is image (inr lacks) = inr (inr (inr (
    lacks.0,
    λ finds v m.
        let makes : TermMakes p tables (access x f) z finds v = subst (λ t. TermMakes p tables t z finds v) (ap term is ∙ term-Access x f) m in
        let own : TermMakes p tables (access x f) z (find_of x k v ∷ []) v = subst (λ q. AccessMakes p tables x q (find_of x k v ∷ []) v) image (lacks.1.makes v) in
        let one = makes-long p tables (access x f) z finds (find_of x k v ∷ []) v v makes own in
        omega (arith, one, lacks.1.full),
  )))

  pub negation-answers : {U : Type 0} (between after : Layout) (b : Expr) (done : U) → e ≡ Neg b → LayAnswers p tables (term b) z most_points most_loads before between (Ok done) → after ≡ with_step between Negated → Answered after
  negation-answers between after b done is h stepped =
      given after (negation (term b)) (ap term is ∙ term-Neg b)
      (with_step h.lays.0 Negated, negation-laid p tables (term b) z h.lays.0 h.lays.1, stepped ∙ (ap (λ l. with_step l Negated) h.lays.2 ∙ step-behind before h.lays.0 Negated))
      (omega (arith, h.few_points, ap (λ (q : Layout). q.points) stepped)) (omega (arith, h.few_loads, ap (λ (q : Layout). length q.loads) stepped))

  module _ (op : Op) (a b : Expr) (is : e ≡ Bin op a b) where
    pub left-answers : (fault : ScanFault) → Fails p tables (term a) z most_points most_loads before fault → Fails p tables (term e) z most_points most_loads before fault
    left-answers fault h = subst (λ t. Fails p tables t z most_points most_loads before fault) (sym (ap term is ∙ term-Bin op a b)) (left-fails p tables most_points most_loads before fault op (term a) (term b) z h)

    module _ {U : Type 0} (between : Layout) (done : U) (h : LayAnswers p tables (term a) z most_points most_loads before between (Ok done)) where
      pub right-answers : (fault : ScanFault) → Fails p tables (term b) z most_points most_loads between fault → Fails p tables (term e) z most_points most_loads before fault
      right-answers fault g =
          subst (λ t. Fails p tables t z most_points most_loads before fault) (sym (ap term is ∙ term-Bin op a b)) (right-fails p tables most_points most_loads before fault op (term a) (term b) z between h.lays g)

      pub binary-answers : (last after : Layout) → LayAnswers p tables (term b) z most_points most_loads between last (Ok done) → after ≡ with_step last (Binary op) → Answered after
      binary-answers last after g stepped =
          given after (binary op (term a) (term b)) (ap term is ∙ term-Bin op a b) (
            with_step (joined h.lays.0 g.lays.0) (Binary op),
            binary-laid p tables op (term a) (term b) z h.lays.0 g.lays.0 h.lays.1 g.lays.1,
            stepped ∙ (ap (λ l. with_step l (Binary op)) (g.lays.2 ∙ (ap (λ l. joined l g.lays.0) h.lays.2 ∙ joined-assoc before h.lays.0 g.lays.0)) ∙ step-behind before (joined h.lays.0 g.lays.0) (Binary op)),
          )
          (omega (arith, g.few_points, ap (λ (q : Layout). q.points) stepped)) (omega (arith, g.few_loads, ap (λ (q : Layout). length q.loads) stepped))

  module _ (op : Op) (extra : ℕ) (domain : Union) (b : Expr) (is : e ≡ Reduce op extra domain b) where
    form : term e ≡ reduction op extra domain (term b)
    form = ap term is ∙ term-Reduce op extra domain b

    pub refused-answers : (fault : ScanFault) → Refuses domain z fault → Fails p tables (term e) z most_points most_loads before fault
    refused-answers fault r = subst (λ t. Fails p tables t z most_points most_loads before fault) (sym form) (scan-fails p tables most_points most_loads before fault op extra domain (term b) z r)

    module _ (ready : IsReadyAt p tables (term e) z) (scan : Scan) (scans : IsScan domain z scan) where
      reads : IsReadyAt p tables (reduction op extra domain (term b)) z
      reads = subst (λ t. IsReadyAt p tables t z) form ready

      same : indices domain z ≡ extra
      same = omega (arith, reads.1)

      pub folds-so : FoldsFromIdentity op
      folds-so = reads.0

      pub wide-so : length z + scan.width ≤ 64
      wide-so = omega (arith, reads.1, reads.2, scans.width)

      pub points-so : All (IsPoint scan.width) scan.to_come
      points-so = subst (λ n. All (IsPoint n) scan.to_come) (sym scans.width) scans.points

      pub each-so : (k : List ℤ) → Contains scan.to_come k → IsReadyAt p tables (term b) (z ++ k)
      each-so k c = reads.4 k (subst (λ n. IsMember domain z n k) same (All-Contains (IsMember domain z (indices domain z)) scan.to_come k scans.members.only c))

      module _ (boxes : IsScanned domain z) (after : Layout) where
        pub fold-answers : {U : Type 0} (result : Result U ScanFault) → FoldAnswers p tables op (term b) z scan.to_come most_points most_loads before after result → LayAnswers p tables (term e) z most_points most_loads before after result
        fold-answers (Ok done) h = given after (reduction op extra domain (term b)) form
            (h.lays.0, reduction-laid p tables op (term b) z extra domain scan.to_come h.lays.0 members boxes h.lays.1, h.lays.2) h.few_points h.few_loads
          where
            members : AreMembers domain z extra scan.to_come
            members = subst (λ n. AreMembers domain z n scan.to_come) same scans.members
        fold-answers (Err fault) h = subst (λ t. Fails p tables t z most_points most_loads before fault) (sym form)
            (fold-fails p tables most_points most_loads before fault op extra domain (term b) z scan.to_come (subst (λ n. AreMembers domain z n scan.to_come) same scans.members) h)
