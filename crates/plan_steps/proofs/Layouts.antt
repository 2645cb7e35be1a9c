-- Layouts one after the other, and what their steps take.
use Rattle.std.proofs.Common.{◌≡◌, ℕ, suc, ◌+◌, List, [], ◌∷◌, ◌++◌, length, refl, sym, ap, ◌∙◌, arith, append_assoc, append-nil}
use Rattle.std.specs.Prelude.{ℤ}
use Rattle.execution.specs.Bodies.{Machine, run, moved}
use Rattle.execution.specs.declared.instance.Instance.{Instance}
use Rattle.execution.specs.declared.step.Step.{Step}
use Rattle.execution.specs.declared.step.Step.TheVariants.{Constant, Loaded}
use Rattle.plan_words.specs.Makes.{Find}
use Rattle.plan_steps.specs.Inner.Laid.{machine, Leaves}
use Rattle.plan_steps.specs.Layouts.{Layout, empty, joined, with_constant, with_load, with_step, with_point, finds_at}

layout : List Step → List ℤ → List Instance → ℕ → Layout
layout steps constants loads points = record { steps = steps; constants = constants; loads = loads; points = points }

same-layout : (s t : List Step) (c d : List ℤ) (l m : List Instance) (n k : ℕ) → s ≡ t → c ≡ d → l ≡ m → n ≡ k →
    ◌≡◌ {A = Layout} (record { steps = s; constants = c; loads = l; points = n }) (record { steps = t; constants = d; loads = m; points = k })
same-layout s t c d l m n k e f g h = λ i. record { steps = e i; constants = f i; loads = g i; points = h i }

pub joined-empty : (a : Layout) → a ≡ joined a empty
joined-empty a = same-layout a.steps (a.steps ++ []) a.constants (a.constants ++ []) a.loads (a.loads ++ []) a.points (a.points + 0)
    (sym (append-nil a.steps)) (sym (append-nil a.constants)) (sym (append-nil a.loads)) (omega arith)

pub joined-assoc : (a b c : Layout) → joined (joined a b) c ≡ joined a (joined b c)
joined-assoc a b c = same-layout ((a.steps ++ b.steps) ++ c.steps) (a.steps ++ (b.steps ++ c.steps)) ((a.constants ++ b.constants) ++ c.constants) (a.constants ++ (b.constants ++ c.constants))
    ((a.loads ++ b.loads) ++ c.loads) (a.loads ++ (b.loads ++ c.loads)) ((a.points + b.points) + c.points) (a.points + (b.points + c.points))
    (append_assoc a.steps b.steps c.steps) (append_assoc a.constants b.constants c.constants) (append_assoc a.loads b.loads c.loads) (omega arith)

pub constant-behind : (a b : Layout) (v : ℤ) → with_constant (joined a b) v ≡ joined a (with_constant b v)
constant-behind a b v = λ i. record { steps = append_assoc a.steps b.steps (Constant ∷ []) i; constants = append_assoc a.constants b.constants (v ∷ []) i; loads = a.loads ++ b.loads; points = a.points + b.points }

pub load-behind : (a b : Layout) (u : Instance) → with_load (joined a b) u ≡ joined a (with_load b u)
load-behind a b u = λ i. record { steps = append_assoc a.steps b.steps (Loaded ∷ []) i; constants = a.constants ++ b.constants; loads = append_assoc a.loads b.loads (u ∷ []) i; points = a.points + b.points }

pub step-behind : (a b : Layout) (step : Step) → with_step (joined a b) step ≡ joined a (with_step b step)
step-behind a b step = λ i. record { steps = append_assoc a.steps b.steps (step ∷ []) i; constants = a.constants ++ b.constants; loads = a.loads ++ b.loads; points = a.points + b.points }

pub point-behind : (a b : Layout) → with_point (joined a b) ≡ joined a (with_point b)
point-behind a b = same-layout (a.steps ++ b.steps) (a.steps ++ b.steps) (a.constants ++ b.constants) (a.constants ++ b.constants) (a.loads ++ b.loads) (a.loads ++ b.loads) ((a.points + b.points) + 1) (a.points + (b.points + 1))
    refl refl refl (omega arith)

-- ---- steps one after the other

pub run-append : (xs ys : List Step) (m : Machine) → run (xs ++ ys) m ≡ run ys (run xs m)
run-append [] ys m = refl
run-append (step ∷ xs) ys m = run-append xs ys (moved step m)

-- what two layouts leave, the second one on top
pub leaves-both :
    (a b : Layout) (f g : List ℤ) (v w : ℤ) → Leaves a f v → Leaves b g w → (constants loaded stack : List ℤ) →
    run (a.steps ++ b.steps) (machine ((a.constants ++ b.constants) ++ constants) ((f ++ g) ++ loaded) stack) ≡ machine constants loaded (w ∷ (v ∷ stack))
leaves-both a b f g v w h k constants loaded stack =
    run-append a.steps b.steps (machine ((a.constants ++ b.constants) ++ constants) ((f ++ g) ++ loaded) stack)
    ∙ (ap (λ m. run b.steps (run a.steps m)) (λ i. machine (append_assoc a.constants b.constants constants i) (append_assoc f g loaded i) stack)
    ∙ (ap (run b.steps) (h (b.constants ++ constants) (g ++ loaded) stack) ∙ k constants loaded (v ∷ stack)))

-- ---- found values that are split

pub record IsSplit (xs ys : List Instance) (found : List ℤ) : Type 0 where
  pub left : List ℤ
  pub right : List ℤ
  pub whole : found ≡ left ++ right
  pub left_long : length left ≡ length xs
  pub right_long : length right ≡ length ys

pub split-found : (xs ys : List Instance) (found : List ℤ) → length found ≡ length (xs ++ ys) → IsSplit xs ys found
split-found [] ys found h = record { left = []; right = found; whole = refl; left_long = refl; right_long = h }
split-found (x ∷ xs) ys [] h = absurd (omega (arith, h))
split-found (x ∷ xs) ys (v ∷ found) h =
    let rest = split-found xs ys found (omega (arith, h)) in
    record {
      left = v ∷ rest.left;
      right = rest.right;
      whole = ap (λ vs. v ∷ vs) rest.whole;
      left_long = ap (λ n. suc n) rest.left_long;
      right_long = rest.right_long;
    }

pub finds-both : (xs ys : List Instance) (left right : List ℤ) → length left ≡ length xs → finds_at (xs ++ ys) (left ++ right) ≡ finds_at xs left ++ finds_at ys right
finds-both [] ys [] right h = refl
finds-both [] ys (v ∷ left) right h = absurd (omega (arith, h))
finds-both (x ∷ xs) ys [] right h = absurd (omega (arith, h))
finds-both (x ∷ xs) ys (v ∷ left) right h = ap (λ (fs : List Find). record { named = x; value = v } ∷ fs) (finds-both xs ys left right (omega (arith, h)))

pub finds-long : (xs : List Instance) (found : List ℤ) → length found ≡ length xs → length (finds_at xs found) ≡ length xs
finds-long [] found h = refl
finds-long (x ∷ xs) [] h = absurd (omega (arith, h))
finds-long (x ∷ xs) (v ∷ found) h = ap (λ n. suc n) (finds-long xs found (omega (arith, h)))
