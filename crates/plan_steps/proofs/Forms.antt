-- What is laid out for the parts of an expression makes what is laid out for the whole.
use Rattle.std.proofs.Common.{◌≡◌, ℕ, ◌+◌, ◌-◌, ◌≤◌, List, [], ◌∷◌, ◌++◌, length, refl, sym, ap, subst, ◌∙◌, arith, ⊎_elim, append_assoc, length-append}
use Rattle.std.specs.Prelude.{ℤ, pos}
use Rattle.az_lin.specs.Affine.{Affine, AffineMap, value_at, image_of}
use Rattle.az_ast.specs.Nodes.{nodes}
use Rattle.az_ast.specs.Operators.{wrapped, applied}
use Rattle.az_ast.specs.System.{System}
use Rattle.az_ast.specs.Tables.{Tables}
use Rattle.az_ast.specs.Term.{Term, constant, index, access, negation, binary}
use Rattle.az_ast.specs.declared.op.Op.{Op}
use Rattle.az_ast.specs.declared.op.Op.TheVariants.{Sub}
use Rattle.execution.specs.Bodies.{run}
use Rattle.execution.specs.declared.instance.Instance.{Instance}
use Rattle.execution.specs.declared.step.Step.{Step}
use Rattle.execution.specs.declared.step.Step.TheVariants.{Negated, Binary}
use Rattle.plan_words.specs.Makes.{Find, find_of, AccessMakes, TermMakes}
use Rattle.plan_steps.specs.Inner.Laid.{machine, Leaves, FitsIn, IsLaid}
use Rattle.plan_steps.specs.Layouts.{Layout, empty, joined, with_constant, with_load, with_step, finds_at}
use Rattle.plan_steps.specs.Runs.{Runs}
use Rattle.plan_steps.proofs.Layouts.{run-append, leaves-both, split-found, finds-both}

-- the same steps with counts that are equal
pub runs-at : (room : ℕ) (steps : List Step) (a b c d h k : ℕ) → a ≡ b → c ≡ d → h ≡ k → Runs room steps a c h → Runs room steps b d k
runs-at room steps a b c d h k e f g r = subst (λ n. Runs room steps n d k) e (subst (λ n. Runs room steps a n k) f (subst (λ n. Runs room steps a c n) g r))

abbrev pub constant_layout : ℤ → Layout
constant_layout v = with_constant empty v

abbrev pub load_layout : Instance → Layout
load_layout u = with_load empty u

pub constant-leaves : (v : ℤ) → Leaves (constant_layout v) [] v
constant-leaves v = λ constants loaded stack. refl

pub constant-fits : (v : ℤ) → FitsIn 1 (constant_layout v)
constant-fits v = λ rest room constants loaded below h r. (omega arith, omega (arith, h), runs-at room rest constants ((1 + constants) - 1) loaded (0 + loaded) (below + 1) (below + 1) (omega arith) (omega arith) refl r)

load-leaves : (u : Instance) (v : ℤ) → Leaves (load_layout u) (v ∷ []) v
load-leaves u v = λ constants loaded stack. refl

load-fits : (u : Instance) → FitsIn 1 (load_layout u)
load-fits u = λ rest room constants loaded below h r. (omega arith, omega (arith, h), runs-at room rest constants (0 + constants) loaded ((1 + loaded) - 1) (below + 1) (below + 1) (omega arith) (omega arith) refl r)

-- a step behind, which leaves as much
pub unary-fits : (n : ℕ) (l : Layout) → FitsIn n l → FitsIn (n + 1) (with_step l Negated)
unary-fits n l fits = λ rest room constants loaded below h r.
    subst (λ steps. Runs room steps (length l.constants + constants) (length l.loads + loaded) below) (sym (append_assoc l.steps (Negated ∷ []) rest))
    (fits (Negated ∷ rest) room constants loaded below (omega (arith, h)) (omega arith, r))

-- an operator behind two
pub binary-fits : (m n : ℕ) (op : Op) (a b : Layout) → FitsIn m a → FitsIn n b → FitsIn (m + n + 1) (with_step (joined a b) (Binary op))
binary-fits m n op a b first second = λ rest room constants loaded below h r.
    let whole : ((a.steps ++ b.steps) ++ Binary op ∷ []) ++ rest ≡ a.steps ++ (b.steps ++ Binary op ∷ rest)
    = append_assoc (a.steps ++ b.steps) (Binary op ∷ []) rest ∙ append_assoc a.steps b.steps (Binary op ∷ rest) in
    let last : Runs room (Binary op ∷ rest) constants loaded (below + 1 + 1) = (omega arith, runs-at room rest constants constants loaded loaded (below + 1) ((below + 1 + 1) - 1) refl refl (omega arith) r) in
    let later = second (Binary op ∷ rest) room constants loaded (below + 1) (omega (arith, h)) last in
    let all = first (b.steps ++ Binary op ∷ rest) room (length b.constants + constants) (length b.loads + loaded) below (omega (arith, h)) later in
    subst (λ steps. Runs room steps (length (a.constants ++ b.constants) + constants) (length (a.loads ++ b.loads) + loaded) below) (sym whole)
    (runs-at room (a.steps ++ (b.steps ++ Binary op ∷ rest)) _ _ _ _ below below (omega (arith, length-append a.constants b.constants)) (omega (arith, length-append a.loads b.loads)) refl all)

pub more-fits : (m n : ℕ) (l : Layout) → m ≤ n → FitsIn m l → FitsIn n l
more-fits m n l h fits = λ rest room constants loaded below g r. fits rest room constants loaded below (omega (arith, h, g)) r

-- the operator's value of what two layouts leave
pub binary-leaves : (op : Op) (a b : Layout) (f g : List ℤ) (v w : ℤ) → Leaves a f v → Leaves b g w → Leaves (with_step (joined a b) (Binary op)) (f ++ g) (applied op v w)
binary-leaves op a b f g v w h k = λ constants loaded stack.
    run-append (a.steps ++ b.steps) (Binary op ∷ []) (machine ((a.constants ++ b.constants) ++ constants) ((f ++ g) ++ loaded) stack)
    ∙ ap (run (Binary op ∷ [])) (leaves-both a b f g v w h k constants loaded stack)

module _ (p : System) (tables : Tables) where
  abbrev Makes : Term → List ℤ → List Find → ℤ → Type 0
  Makes e z finds v = TermMakes p tables e z finds v

  -- ---- without parts

  pub constant-laid : (c : ℤ) (z : List ℤ) → IsLaid p tables (constant c) z (constant_layout c)
  constant-laid c z = record {
    value = value;
    room = constant-fits c;
    points = refl;
    scanned = λ x d o m. absurd m;
  }
    where
      value : (found : List ℤ) → length found ≡ 0 → (v : ℤ) × Makes (constant c) z (finds_at [] found) v × Leaves (constant_layout c) found v
      value [] h = (c, (refl, refl), constant-leaves c)
      value (v ∷ found) h = absurd (omega (arith, h))

  pub index-laid : (row : Affine) (z : List ℤ) (c : ℤ) → c ≡ wrapped (value_at row z) → IsLaid p tables (index row) z (constant_layout c)
  index-laid row z c is = record {
    value = value;
    room = constant-fits c;
    points = refl;
    scanned = λ x d o m. absurd m;
  }
    where
      value : (found : List ℤ) → length found ≡ 0 → (v : ℤ) × Makes (index row) z (finds_at [] found) v × Leaves (constant_layout c) found v
      value [] h = (c, (refl, is), constant-leaves c)
      value (v ∷ found) h = absurd (omega (arith, h))

  -- an input's value is settled
  pub input-laid : (x : ℕ) (f : AffineMap) (z : List ℤ) (c : ℤ) → AccessMakes p tables x (image_of f z) [] c → IsLaid p tables (access x f) z (constant_layout c)
  input-laid x f z c makes = record {
    value = value;
    room = constant-fits c;
    points = refl;
    scanned = λ y d o m. absurd m;
  }
    where
      value : (found : List ℤ) → length found ≡ 0 → (v : ℤ) × Makes (access x f) z (finds_at [] found) v × Leaves (constant_layout c) found v
      value [] h = (c, makes, constant-leaves c)
      value (v ∷ found) h = absurd (omega (arith, h))

  pub load-laid : (x : ℕ) (f : AffineMap) (z k : List ℤ) → k ≡ image_of f z → ((v : ℤ) → AccessMakes p tables x k (find_of x k v ∷ []) v) →
      IsLaid p tables (access x f) z (load_layout (record { variable = x; point = k }))
  load-laid x f z k is makes = record {
    value = value;
    room = load-fits (record { variable = x; point = k });
    points = refl;
    scanned = λ y d o m. absurd m;
  }
    where
      value : (found : List ℤ) → length found ≡ 1 →
          (v : ℤ) × Makes (access x f) z (finds_at (record { variable = x; point = k } ∷ []) found) v × Leaves (load_layout (record { variable = x; point = k })) found v
      value [] h = absurd (omega (arith, h))
      value (v ∷ []) h = (v, subst (λ q. AccessMakes p tables x q (find_of x k v ∷ []) v) is (makes v), load-leaves (record { variable = x; point = k }) v)
      value (v ∷ (w ∷ found)) h = absurd (omega (arith, h))

  -- ---- with parts

  pub negation-laid : (e : Term) (z : List ℤ) (l : Layout) → IsLaid p tables e z l → IsLaid p tables (negation e) z (with_step l Negated)
  negation-laid e z l h = record {
    value = λ found long.
        let one = h.value found long in (
          applied Sub (pos 0) one.0,
          (one.0, one.1, refl),
          λ constants loaded stack. run-append l.steps (Negated ∷ []) (machine (l.constants ++ constants) (found ++ loaded) stack) ∙ ap (run (Negated ∷ [])) (one.2 constants loaded stack),
        );
    room = unary-fits (nodes e) l h.room;
    points = h.points;
    scanned = h.scanned;
  }

  pub binary-laid : (op : Op) (a b : Term) (z : List ℤ) (l m : Layout) → IsLaid p tables a z l → IsLaid p tables b z m → IsLaid p tables (binary op a b) z (with_step (joined l m) (Binary op))
  binary-laid op a b z l m h k = record {
    value = value;
    room = binary-fits (nodes a) (nodes b) op l m h.room k.room;
    points = (l.points, m.points, h.points, k.points, refl);
    scanned = λ x d o e. ⊎_elim (λ s. h.scanned x d o s) (λ t. k.scanned x d o t) e;
  }
    where
      value : (found : List ℤ) → length found ≡ length (l.loads ++ m.loads) →
          (v : ℤ) × Makes (binary op a b) z (finds_at (l.loads ++ m.loads) found) v × Leaves (with_step (joined l m) (Binary op)) found v
      value found long =
          let parts = split-found l.loads m.loads found long in
          let x = h.value parts.left parts.left_long in
          let y = k.value parts.right parts.right_long in
          let finds = ap (finds_at (l.loads ++ m.loads)) parts.whole ∙ finds-both l.loads m.loads parts.left parts.right parts.left_long in (
            applied op x.0 y.0,
            (finds_at l.loads parts.left, finds_at m.loads parts.right, x.0, y.0, x.1, y.1, finds, refl),
            subst (λ f. Leaves (with_step (joined l m) (Binary op)) f (applied op x.0 y.0)) (sym parts.whole) (binary-leaves op l m parts.left parts.right x.0 y.0 x.2 y.2),
          )
