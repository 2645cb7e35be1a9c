-- A step on a stack in an array.
use Rattle.std.proofs.Common.{◌≡◌, ℕ, zero, suc, ◌+◌, ◌-◌, ◌<◌, ◌≤◌, List, [], ◌∷◌, length, drop, get_or, set, refl, sym, ap, subst, ◌∙◌, arith, drop-cons, drop_of_length-le, get_or-set_same, get_or-set_other, drop-drop, get_or-drop}
use Rattle.std.specs.Prelude.{ℤ, pos}
use Rattle.az_ast.specs.Operators.{applied}
use Rattle.az_ast.specs.declared.op.Op.{Op}
use Rattle.az_ast.specs.declared.op.Op.TheVariants.{Sub}
use Rattle.execution.specs.Bodies.{Machine, run, moved, body_value, top, below_top}
use Rattle.execution.specs.declared.step.Step.{Step}
use Rattle.execution.specs.declared.step.Step.TheVariants.{Constant, Loaded, Negated, Binary}
use Rattle.plan_steps.specs.Inner.Machines.{stacked, machine_at, CanMove, moved_on}
use Rattle.plan_steps.specs.Runs.{Runs}
use Rattle.plan_steps.proofs.Forms.{runs-at}
use Rattle.plan_steps.specs.declared.machine.Cursor.{Cursor}

-- what stands below a place doesn't change with it
stacked-below : (h j : ℕ) (values : List ℤ) (v : ℤ) → h ≤ j → stacked h (set values j v) ≡ stacked h values
stacked-below zero j values v g = refl
stacked-below (suc h) j values v g =
    let first = get_or-set_other values j h v (pos 0) (omega (arith, g)) in
    let rest = stacked-below h j values v (omega (arith, g)) in
    λ i. first i ∷ rest i

pub stacked-top : (h : ℕ) (values : List ℤ) (v : ℤ) → h < length values → stacked (suc h) (set values h v) ≡ v ∷ stacked h values
stacked-top h values v g =
    let first = get_or-set_same values h v (pos 0) g in
    let rest = stacked-below h h values v (omega arith) in
    λ i. first i ∷ rest i

same-machine : (c d l m s t : List ℤ) → c ≡ d → l ≡ m → s ≡ t → ◌≡◌ {A = Machine} (record { constants = c; loaded = l; stack = s }) (record { constants = d; loaded = m; stack = t })
same-machine c d l m s t e f g = λ i. record { constants = e i; loaded = f i; stack = g i }

taken-one : (n : ℕ) (values : List ℤ) → drop (n + 1) values ≡ drop 1 (drop n values)
taken-one n values = sym (drop-drop 1 n values)

first-left : (n : ℕ) (values : List ℤ) → get_or values n (pos 0) ≡ top (drop n values)
first-left n values = let e : n + 0 ≡ n = omega arith in sym (get_or-drop n values 0 (pos 0) ∙ ap (λ k. get_or values k (pos 0)) e)

one-more : (n : ℕ) → n + 1 ≡ suc n
one-more n = omega arith

module _ (constants loaded values after : List ℤ) (cursor : Cursor) (v : ℤ) where
  pub constant-moves :
      cursor.height < length values → v ≡ get_or constants cursor.next (pos 0) → after ≡ set values cursor.height v →
      machine_at (moved_on Constant cursor) constants loaded after ≡ moved Constant (machine_at cursor constants loaded values)
  constant-moves h is written =
      same-machine (drop (cursor.next + 1) constants) (drop 1 (drop cursor.next constants)) (drop cursor.taken loaded) (drop cursor.taken loaded) (stacked (cursor.height + 1) after) _
      (taken-one cursor.next constants) refl
      (ap (λ n. stacked n after) (one-more cursor.height) ∙ (ap (stacked (suc cursor.height)) written ∙ (stacked-top cursor.height values v h ∙ ap (λ w. w ∷ stacked cursor.height values) (is ∙ first-left cursor.next constants))))

  pub load-moves :
      cursor.height < length values → v ≡ get_or loaded cursor.taken (pos 0) → after ≡ set values cursor.height v →
      machine_at (moved_on Loaded cursor) constants loaded after ≡ moved Loaded (machine_at cursor constants loaded values)
  load-moves h is written =
      same-machine (drop cursor.next constants) (drop cursor.next constants) (drop (cursor.taken + 1) loaded) (drop 1 (drop cursor.taken loaded)) (stacked (cursor.height + 1) after) _
      refl (taken-one cursor.taken loaded)
      (ap (λ n. stacked n after) (one-more cursor.height) ∙ (ap (stacked (suc cursor.height)) written ∙ (stacked-top cursor.height values v h ∙ ap (λ w. w ∷ stacked cursor.height values) (is ∙ first-left cursor.taken loaded))))

  pub negation-moves :
      (h : ℕ) → cursor.height ≡ suc h → h < length values → v ≡ applied Sub (pos 0) (get_or values h (pos 0)) → after ≡ set values h v →
      machine_at (moved_on Negated cursor) constants loaded after ≡ moved Negated (machine_at cursor constants loaded values)
  negation-moves h high within is written =
      let old : stacked cursor.height values ≡ get_or values h (pos 0) ∷ stacked h values = ap (λ n. stacked n values) high in
      same-machine (drop cursor.next constants) (drop cursor.next constants) (drop cursor.taken loaded) (drop cursor.taken loaded) (stacked cursor.height after) _ refl refl
      (ap (λ n. stacked n after) high ∙ (ap (stacked (suc h)) written ∙ (stacked-top h values v within ∙ (ap (λ w. w ∷ stacked h values) is ∙ sym (ap (λ s. applied Sub (pos 0) (top s) ∷ drop 1 s) old)))))

  pub binary-moves :
      (op : Op) (h : ℕ) → cursor.height ≡ suc (suc h) → suc h < length values → v ≡ applied op (get_or values h (pos 0)) (get_or values (suc h) (pos 0)) → after ≡ set values h v →
      machine_at (moved_on (Binary op) cursor) constants loaded after ≡ moved (Binary op) (machine_at cursor constants loaded values)
  binary-moves op h high within is written =
      let old : stacked cursor.height values ≡ get_or values (suc h) (pos 0) ∷ (get_or values h (pos 0) ∷ stacked h values) = ap (λ n. stacked n values) high in
      let low : cursor.height - 1 ≡ suc h = omega (arith, high) in
      same-machine (drop cursor.next constants) (drop cursor.next constants) (drop cursor.taken loaded) (drop cursor.taken loaded) (stacked (cursor.height - 1) after) _ refl refl
      (ap (λ n. stacked n after) low ∙ (ap (stacked (suc h)) written ∙ (stacked-top h values v (omega (arith, within)) ∙ (ap (λ w. w ∷ stacked h values) is
      ∙ sym (ap (λ s. applied op (below_top s) (top s) ∷ drop 2 s) old)))))

runs-to : (room space : ℕ) (steps : List Step) (a b c d h k : ℕ) → room ≡ space → a ≡ b → c ≡ d → h ≡ k → Runs room steps a c h → Runs space steps b d k
runs-to room space steps a b c d h k s e f g r = subst (λ n. Runs n steps b d k) s (runs-at room steps a b c d h k e f g r)

-- steps that run can be carried out one after another
pub record IsUnder (steps left : List Step) (constants loaded initial values : List ℤ) (cursor : Cursor) : Type 0 where
  pub runs : Runs (length values) left (length constants - cursor.next) (length loaded - cursor.taken) cursor.height
  pub next : cursor.next ≤ length constants
  pub taken : cursor.taken ≤ length loaded
  pub height : cursor.height ≤ length values
  pub room : length values ≡ length initial
  pub machine : run left (machine_at cursor constants loaded values) ≡ run steps (record { constants = constants; loaded = loaded; stack = [] })

pub can-move : (step : Step) (rest : List Step) (constants loaded values : List ℤ) (cursor : Cursor) → cursor.next ≤ length constants → cursor.taken ≤ length loaded → cursor.height ≤ length values →
    Runs (length values) (step ∷ rest) (length constants - cursor.next) (length loaded - cursor.taken) cursor.height → CanMove step cursor (length constants) (length loaded) (length values)
can-move Constant rest constants loaded values cursor n t h r = (omega (arith, r.0, n), r.1)
can-move Loaded rest constants loaded values cursor n t h r = (omega (arith, r.0, t), r.1)
can-move Negated rest constants loaded values cursor n t h r = (r.0, omega (arith, h))
can-move (Binary op) rest constants loaded values cursor n t h r = (r.0, omega (arith, h))

pub step-under : (steps rest : List Step) (step : Step) (constants loaded initial values after : List ℤ) (cursor next : Cursor) → IsUnder steps (step ∷ rest) constants loaded initial values cursor →
    next ≡ moved_on step cursor → machine_at next constants loaded after ≡ moved step (machine_at cursor constants loaded values) → length after ≡ length values →
    IsUnder steps rest constants loaded initial after next
step-under steps rest step constants loaded initial values after cursor next u is moves long =
    subst (λ c. IsUnder steps rest constants loaded initial after c) (sym is) (by step u (ap (λ c. machine_at c constants loaded after) (sym is) ∙ moves))
  where
    by : (s : Step) → IsUnder steps (s ∷ rest) constants loaded initial values cursor → machine_at (moved_on s cursor) constants loaded after ≡ moved s (machine_at cursor constants loaded values) →
        IsUnder steps rest constants loaded initial after (moved_on s cursor)
    by Constant u m = record {
      runs = runs-to (length values) (length after) rest _ _ _ _ _ _ (sym long) (omega arith) refl refl u.runs.2;
      next = omega (arith, u.next, u.runs.0);
      taken = u.taken;
      height = omega (arith, long, u.runs.1);
      room = long ∙ u.room;
      machine = ap (run rest) m ∙ u.machine;
    }
    by Loaded u m = record {
      runs = runs-to (length values) (length after) rest _ _ _ _ _ _ (sym long) refl (omega arith) refl u.runs.2;
      next = u.next;
      taken = omega (arith, u.taken, u.runs.0);
      height = omega (arith, long, u.runs.1);
      room = long ∙ u.room;
      machine = ap (run rest) m ∙ u.machine;
    }
    by Negated u m = record {
      runs = runs-to (length values) (length after) rest _ _ _ _ _ _ (sym long) refl refl refl u.runs.1;
      next = u.next;
      taken = u.taken;
      height = omega (arith, long, u.height);
      room = long ∙ u.room;
      machine = ap (run rest) m ∙ u.machine;
    }
    by (Binary op) u m = record {
      runs = runs-to (length values) (length after) rest _ _ _ _ _ _ (sym long) refl refl refl u.runs.1;
      next = u.next;
      taken = u.taken;
      height = omega (arith, long, u.height);
      room = long ∙ u.room;
      machine = ap (run rest) m ∙ u.machine;
    }

-- one turn more, and the last one
pub loop-under : (steps : List Step) (i : ℕ) (d : Step) (constants loaded initial values after : List ℤ) (cursor next : Cursor) → i < length steps → IsUnder steps (drop i steps) constants loaded initial values cursor →
    next ≡ moved_on (get_or steps i d) cursor → machine_at next constants loaded after ≡ moved (get_or steps i d) (machine_at cursor constants loaded values) → length after ≡ length values →
    IsUnder steps (drop (i + 1) steps) constants loaded initial after next
loop-under steps i d constants loaded initial values after cursor next within u is moves long =
    let further : i + 1 ≡ suc i = omega arith in
    subst (λ n. IsUnder steps (drop n steps) constants loaded initial after next) (sym further)
    (step-under steps (drop (suc i) steps) (get_or steps i d) constants loaded initial values after cursor next
    (subst (λ left. IsUnder steps left constants loaded initial values cursor) (drop-cons steps i d within) u) is moves long)

pub end-under : (steps : List Step) (i : ℕ) (constants loaded initial values : List ℤ) (cursor : Cursor) → length steps ≤ i → 0 < cursor.height → IsUnder steps (drop i steps) constants loaded initial values cursor →
    get_or values (cursor.height - 1) (pos 0) ≡ body_value steps constants loaded
end-under steps i constants loaded initial values cursor past high u =
    let done : machine_at cursor constants loaded values ≡ run steps (record { constants = constants; loaded = loaded; stack = [] })
    = subst (λ left. run left (machine_at cursor constants loaded values) ≡ run steps (record { constants = constants; loaded = loaded; stack = [] })) (drop_of_length-le steps past) u.machine in
    let whole : suc (cursor.height - 1) ≡ cursor.height = omega (arith, high) in
    ap (λ n. top (stacked n values)) whole ∙ ap (λ m. top m.stack) done
