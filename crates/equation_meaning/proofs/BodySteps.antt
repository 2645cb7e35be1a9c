-- The count over an expression's forms.
use Rattle.std.proofs.Common.{◌≡◌, ℕ, suc, ◌+◌, ◌<◌, ◌≤◌, ◌-◌, Bool, true, false, List, [], ◌∷◌, ◌++◌, length, drop, drop-cons, get_or, refl, sym, subst, ap, ◌∙◌, arith, inl, inr, ⊎_elim, length-append, length-drop}
use Rattle.std.specs.Prelude.{ℤ, All, Contains, Result, Ok, Err, ◌||◌}
use Rattle.std.specs.List.{AllZip, sum}
use Rattle.std.proofs.lemmas.List.{nil_from_length}
use Rattle.std.proofs.lemmas.List.Elements.{All-append}
use Rattle.az_lin.specs.Affine.{Affine, AffineMap, Union, HoldsSome, IsCoordinate}
use Rattle.az_ast.specs.Dependences.{EvaluatesBranch}
use Rattle.az_ast.specs.Points.{IsMember, AreMembers}
use Rattle.az_ast.specs.Term.{Term, constant, index, access, negation, binary, cases, reduction, Choices, none, choice, term}
use Rattle.az_ast.specs.declared.expr.Branch.{Branch}
use Rattle.az_ast.specs.declared.op.Op.{Op}
use Rattle.az_ast.specs.declared.expr.Expr.{Expr}
use Rattle.az_ast.specs.declared.expr.Expr.TheVariants.{Const, Index, Access, Neg, Bin, Cases, Reduce}
use Rattle.az_ast.proofs.Terms.{term-Const, term-Index, term-Access, term-Neg, term-Bin, term-Cases, term-Reduce}
use Rattle.az_ast.proofs.Members.{All-Contains, AreMembers-unique}
use Rattle.expr_places.proofs.Branches.{held_or_not}
use Rattle.loop_scan.specs.Answers.{IsUnrefused}
use Rattle.loop_scan.specs.declared.fault.ScanFault.{ScanFault}
use Rattle.loop_scan.specs.declared.fault.ScanFault.TheVariants.{Overflow, Entry, Limit, Memory}
use Rattle.value_walk.specs.Boxes.{IsBox, UnlessMemory, IsBoxFault}
use Rattle.value_walk.specs.Chains.{IsReduction}
use Rattle.equation_meaning.proofs.Branches.{branches_of}
use Rattle.equation_meaning.specs.Counts.{TermCounts, ChoiceCounts}
use Rattle.equation_meaning.specs.declared.body_count.CountFault.{CountFault}
use Rattle.equation_meaning.specs.declared.body_count.CountFault.TheVariants.{Many, Scan}
use Rattle.equation_meaning.specs.Inner.Counting.{has_reduction, have_reduction, IsCountable, AreCountable, CanCount, Evaluated, EvaluatedAt, BodyCounts, SomeRefused, TermAnswers, ChoiceAnswers, BodyAnswers}
use Rattle.equation_meaning.proofs.Sums.{zeros}
use Rattle.equation_meaning.proofs.Counting.{chosen, passed, refused-more, both-counted, first-fails, second-fails}
use Rattle.equation_meaning.proofs.Once.{counts-once}

-- an expression without a reduction counts nothing
or-false : (a b : Bool) → (a || b) ≡ false → (a ≡ false) × (b ≡ false)
or-false true b e = absurd (cc)
or-false false b e = (refl, e)

mutual
  none-counts : (e : Term) (z : List ℤ) → has_reduction e ≡ false → IsCountable e z → TermCounts e z 0
  none-counts (constant c) z e r = refl
  none-counts (index row) z e r = refl
  none-counts (access x f) z e r = refl
  none-counts (negation e) z flat r = none-counts e z flat r
  none-counts (binary op a b) z flat r =
      let parts = or-false (has_reduction a) (has_reduction b) flat in
      (0, 0, none-counts a z parts.0 r.0, none-counts b z parts.1 r.1, refl)
  none-counts (cases branches) z flat r = none-chosen branches z flat r
  none-counts (reduction op extra domain e) z flat r = absurd (cc)

  none-chosen : (branches : Choices) (z : List ℤ) → have_reduction branches ≡ false → AreCountable branches z → ChoiceCounts branches z 0
  none-chosen none z flat r = absurd r
  none-chosen (choice domain e rest) z flat r =
      let parts = or-false (has_reduction e) (have_reduction rest) flat in
      ⊎_elim (λ h. inl (h, none-counts e z parts.0 (r.1 h))) (λ out. inr (out, none-chosen rest z parts.1 (r.2 out))) (held_or_not domain z)

mutual
  none-met : (e : Term) (z : List ℤ) (extra : ℕ) (d : Union) (o : List ℤ) → has_reduction e ≡ false → Evaluated e z extra d o → ⊥
  none-met (constant c) z x d o flat m = m
  none-met (index row) z x d o flat m = m
  none-met (access y f) z x d o flat m = m
  none-met (negation e) z x d o flat m = none-met e z x d o flat m
  none-met (binary op a b) z x d o flat m =
      let parts = or-false (has_reduction a) (has_reduction b) flat in
      ⊎_elim (λ l. none-met a z x d o parts.0 l) (λ r. none-met b z x d o parts.1 r) m
  none-met (cases branches) z x d o flat m = none-met-chosen branches z x d o flat m
  none-met (reduction op extra domain e) z x d o flat m = cc

  none-met-chosen : (branches : Choices) (z : List ℤ) (extra : ℕ) (d : Union) (o : List ℤ) → have_reduction branches ≡ false → EvaluatesBranch (IsReduction extra d o) branches z → ⊥
  none-met-chosen none z x d o flat m = m
  none-met-chosen (choice domain e rest) z x d o flat m =
      let parts = or-false (has_reduction e) (have_reduction rest) flat in
      ⊎_elim (λ l. none-met e z x d o parts.0 l.1) (λ r. none-met-chosen rest z x d o parts.1 r.1) m

pub flat-body :
    (e : Term) (z : List ℤ) (points : List (List ℤ)) (left n : ℕ) → n ≡ length points → n ≤ left → has_reduction e ≡ false → ((k : List ℤ) → Contains points k → CanCount e (z ++ k)) →
    BodyAnswers e z points left (Ok n)
flat-body e z points left n same few flat can =
    let all = zeros (λ k c. TermCounts e (z ++ k) c) points (λ k c. none-counts e (z ++ k) flat (can k c).ready) in
    record {
      counts = (all.0, all.1, omega (arith, same, all.2));
      few = few;
      boxes = λ x d o m. absurd (none-met e (z ++ m.0) x d o flat m.2);
    }

pub over-limit : (e : Term) (z : List ℤ) (points : List (List ℤ)) (left : ℕ) → left < length points → BodyAnswers e z points left (Err Many)
over-limit e z points left h = λ n b. omega (arith, h, b.2)

-- a reduction: its points, and what the body counts at them
module _ (z : List ℤ) (extra : ℕ) (domain : Union) (e : Term) (points : List (List ℤ)) (members : AreMembers domain z extra points) (unrefused : IsUnrefused domain z) where
  module _ (op : Op) where
    pub reduced : (left : ℕ) (result : Result ℕ CountFault) → BodyAnswers e z points left result → TermAnswers (reduction op extra domain e) z left result
    reduced left (Ok n) h =
        record {
          counts = record { points = points; counts = h.counts.0; members = members; bodies = h.counts.1; result = h.counts.2 };
          few = h.few;
          boxes = λ x d o m.
              ⊎_elim (λ own. subst (λ (q : Union). IsUnrefused q o) own.same_domain (subst (λ q. IsUnrefused domain q) own.same_outer unrefused))
              (λ inner. h.boxes x d o (inner.0, members.every inner.0 inner.1, inner.2)) m;
        }
    reduced left (Err Many) h = λ n c.
        h n (
          c.counts,
          subst (λ ps. AllZip (λ k m. TermCounts e (z ++ k) m) ps c.counts) (AreMembers-unique domain z extra c.points points c.members members) c.bodies,
          c.result ∙ ap (λ ps. length ps + sum c.counts) (AreMembers-unique domain z extra c.points points c.members members),
        )
    reduced left (Err (Scan fault)) h =
        refused-more (BodyCounts e z points) (λ n. TermCounts (reduction op extra domain e) z n) (EvaluatedAt e z points) (Evaluated (reduction op extra domain e) z)
        (λ x d o m. inr (m.0, All-Contains (IsMember domain z extra) points m.0 members.only m.1, m.2)) fault h

pub reduction-refused : (op : Op) (extra : ℕ) (domain : Union) (e : Term) (z : List ℤ) (left : ℕ) (fault : ScanFault) → IsBoxFault domain z fault → TermAnswers (reduction op extra domain e) z left (Err (Scan fault))
reduction-refused op extra domain e z left fault h = by fault h
  where
    own : Evaluated (reduction op extra domain e) z extra domain z
    own = inl (record { same_extra = refl; same_domain = refl; same_outer = refl })

    by : (f : ScanFault) → IsBoxFault domain z f → UnlessMemory (SomeRefused (λ n. TermCounts (reduction op extra domain e) z n) (Evaluated (reduction op extra domain e) z)) f
    by Overflow r = (extra, domain, z, own, r)
    by Entry r = (extra, domain, z, own, r)
    by (Limit limit) r = (extra, domain, z, own, r)
    by Memory r = tt

-- the branches that are left answer for the case
pub record IsLeft (e : Expr) (z : List ℤ) (branches : List Branch) : Type 0 where
  pub ready : AreCountable (branches_of branches) z
  pub answers : (left : ℕ) (result : Result ℕ CountFault) → ChoiceAnswers (branches_of branches) z left result → TermAnswers (term e) z left result

next-branch : (branches : List Branch) (i : ℕ) (branch : Branch) → i < length branches → branch ≡ get_or branches i branch → drop i branches ≡ branch ∷ drop (suc i) branches
next-branch branches i branch h found = drop-cons branches i branch h ∙ ap (λ b. b ∷ drop (suc i) branches) (sym found)

pub tests-next : (e : Expr) (branches : List Branch) (i : ℕ) (branch : Branch) (b : Bool) → i < length branches → branch ≡ get_or branches i branch → have_reduction (branches_of (drop i branches)) ≡ b →
    (has_reduction (term branch.body) || have_reduction (branches_of (drop (suc i) branches))) ≡ b
tests-next e branches i branch b h found same = subst (λ bs. have_reduction (branches_of bs) ≡ b) (next-branch branches i branch h found) same

module _ (e : Expr) (z : List ℤ) (branches : List Branch) where
  pub first-left : e ≡ Cases branches → IsCountable (term e) z → IsLeft e z branches
  first-left is r =
      let form = ap term is ∙ term-Cases branches in
      record { ready = subst (λ t. IsCountable t z) form r; answers = λ left result a. subst (λ t. TermAnswers t z left result) (sym form) a }

  module _ (i : ℕ) (branch : Branch) (within : i < length branches) (found : branch ≡ get_or branches i branch) (left : IsLeft e z (drop i branches)) where
    here : IsLeft e z (branch ∷ drop (suc i) branches)
    here = subst (λ bs. IsLeft e z bs) (next-branch branches i branch within found) left

    pub held-ready : HoldsSome branch.domain z → IsCountable (term branch.body) z
    held-ready h = here.ready.1 h

    pub held-answers : HoldsSome branch.domain z → (most : ℕ) (result : Result ℕ CountFault) → TermAnswers (term branch.body) z most result → TermAnswers (term e) z most result
    held-answers h most result a = here.answers most result (chosen branch.domain (term branch.body) (branches_of (drop (suc i) branches)) z most result h a)

    pub missed-left : (HoldsSome branch.domain z → ⊥) → IsLeft e z (drop (i + 1) branches)
    missed-left out =
        let next : suc i ≡ i + 1 = omega arith in
        subst (λ n. IsLeft e z (drop n branches)) next
        (record {
          ready = here.ready.2 out;
          answers = λ most result a. here.answers most result (passed branch.domain (term branch.body) (branches_of (drop (suc i) branches)) z most result out a);
        })

  pub none-left : (i : ℕ) → length branches ≤ i → IsLeft e z (drop i branches) → ⊥
  none-left i h left = let gone : drop i branches ≡ [] = nil_from_length (drop i branches) (omega (arith, h, length-drop i branches)) in (subst (λ bs. IsLeft e z bs) gone left).ready

-- an expression that counts nothing
leaf : (t : Term) (z : List ℤ) (left : ℕ) → TermCounts t z 0 → ((x : ℕ) (d : Union) (o : List ℤ) → Evaluated t z x d o → ⊥) → TermAnswers t z left (Ok 0)
leaf t z left c never = record { counts = c; few = omega arith; boxes = λ x d o m. absurd (never x d o m) }

pub constant-counted : (e : Expr) (v : ℤ) (z : List ℤ) (left : ℕ) → e ≡ Const v → TermAnswers (term e) z left (Ok 0)
constant-counted e v z left is = subst (λ t. TermAnswers t z left (Ok 0)) (sym (ap term is ∙ term-Const v)) (leaf (constant v) z left refl (λ x d o m. m))

pub index-counted : (e : Expr) (row : Affine) (z : List ℤ) (left : ℕ) → e ≡ Index row → TermAnswers (term e) z left (Ok 0)
index-counted e row z left is = subst (λ t. TermAnswers t z left (Ok 0)) (sym (ap term is ∙ term-Index row)) (leaf (index row) z left refl (λ x d o m. m))

pub access-counted : (e : Expr) (y : ℕ) (f : AffineMap) (z : List ℤ) (left : ℕ) → e ≡ Access y f → TermAnswers (term e) z left (Ok 0)
access-counted e y f z left is = subst (λ t. TermAnswers t z left (Ok 0)) (sym (ap term is ∙ term-Access y f)) (leaf (access y f) z left refl (λ x d o m. m))

pub negation-counted : (e f : Expr) (z : List ℤ) (left : ℕ) (result : Result ℕ CountFault) → e ≡ Neg f → TermAnswers (term f) z left result → TermAnswers (term e) z left result
negation-counted e f z left result is a = subst (λ t. TermAnswers t z left result) (sym (ap term is ∙ term-Neg f)) a

module _ (e : Expr) (op : Op) (a b : Expr) (z : List ℤ) (left : ℕ) (is : e ≡ Bin op a b) where
  form : term e ≡ binary op (term a) (term b)
  form = ap term is ∙ term-Bin op a b

  abbrev Counts : Expr → ℕ → Type 0
  Counts f n = TermCounts (term f) z n

  pub binary-counted : (i j : ℕ) → TermAnswers (term a) z left (Ok i) → TermAnswers (term b) z (left - i) (Ok j) → TermAnswers (term e) z left (Ok (i + j))
  binary-counted i j h g = subst (λ t. TermAnswers t z left (Ok (i + j))) (sym form) (both-counted (Counts a) (Counts b) (Evaluated (term a) z) (Evaluated (term b) z) left i j h g)

  pub binary-first : (fault : CountFault) → TermAnswers (term a) z left (Err fault) → TermAnswers (term e) z left (Err fault)
  binary-first fault h = subst (λ t. TermAnswers t z left (Err fault)) (sym form) (first-fails (Counts a) (Counts b) (Evaluated (term a) z) (Evaluated (term b) z) left fault h)

  pub binary-second : (i : ℕ) (fault : CountFault) → TermAnswers (term a) z left (Ok i) → TermAnswers (term b) z (left - i) (Err fault) → TermAnswers (term e) z left (Err fault)
  binary-second i fault h g =
      subst (λ t. TermAnswers t z left (Err fault)) (sym form)
      (second-fails (Counts a) (Counts b) (Evaluated (term a) z) (Evaluated (term b) z) (λ m n p q. counts-once (term a) z m n p q) left i fault h g)

module _ (e : Expr) (op : Op) (extra : ℕ) (domain : Union) (body : Expr) (z : List ℤ) (left : ℕ) (is : e ≡ Reduce op extra domain body) where
  reduce-form : term e ≡ reduction op extra domain (term body)
  reduce-form = ap term is ∙ term-Reduce op extra domain body

  pub reduce-refused : (fault : ScanFault) → IsBoxFault domain z fault → TermAnswers (term e) z left (Err (Scan fault))
  reduce-refused fault h = subst (λ t. TermAnswers t z left (Err (Scan fault))) (sym reduce-form) (reduction-refused op extra domain (term body) z left fault h)

  module _ (ready : IsCountable (term e) z) (points : List (List ℤ)) (box : IsBox domain z points) where
    needs : IsCountable (reduction op extra domain (term body)) z
    needs = subst (λ t. IsCountable t z) reduce-form ready

    own : domain.width - length z ≡ extra
    own = omega (arith, needs.1)

    members : AreMembers domain z extra points
    members = subst (λ n. AreMembers domain z n points) own box.members

    pub reduce-answers : IsUnrefused domain z → (result : Result ℕ CountFault) → BodyAnswers (term body) z points left result → TermAnswers (term e) z left result
    reduce-answers unrefused result a = subst (λ t. TermAnswers t z left result) (sym reduce-form) (reduced z extra domain (term body) points members unrefused op left result a)

    pub reduce-can : All IsCoordinate z → (k : List ℤ) → Contains points k → CanCount (term body) (z ++ k)
    reduce-can range k c =
        let member = All-Contains (IsMember domain z extra) points k members.only c in
        let here : All IsCoordinate k = subst (λ q. All IsCoordinate q) c.2 (box.coordinates c.0 k c.1) in
        record { ready = needs.4 k member; narrow = omega (arith, length-append z k, member.0, needs.1, needs.2); range = All-append IsCoordinate z k range here }
