-- The stages end in one way: there is one last stage, and one reason why no other follows it. A system that a row refutes
-- has no point, and the other way round.
use Rattle.std.proofs.Common.{◌≡◌, ℕ, zero, suc, ◌+◌, ◌-◌, ◌≤◌, ◌∙◌, sym, subst, ap, arith, Option, Some, None, List, inl, inr}
use Rattle.std.proofs.lemmas.Bool.{cases_lt}
use Rattle.az_lin.specs.Affine.{Polyhedron}
use Rattle.az_lin.specs.declared.step.Step.{Step}
use Rattle.farkas_find.specs.declared.numbered.Numbered.{Numbered}
use Rattle.farkas_find.specs.declared.choice.Choice.{Choice}
use Rattle.farkas_find.specs.declared.trail.Stage.{Stage}
use Rattle.farkas_find.specs.declared.trail.Eliminated.{Eliminated}
use Rattle.farkas_find.specs.declared.trail.Ended.{Ended}
use Rattle.farkas_find.specs.declared.trail.Ended.TheVariants.{Refuted, Left}
use Rattle.farkas_find.specs.Tidying.{contradiction_in}
use Rattle.farkas_find.specs.Choosing.{choice_of, free_columns}
use Rattle.farkas_find.specs.Stages.{given_rows, tidied_rows, stage_after, rows_after, HasFew, HasMany, StaysWide, Chooses, Follows, IsReached, EndsBy}
use Rattle.farkas_find.specs.Verdict.{IsRefutedBy, IsUnrefuted}
use Rattle.farkas_find.proofs.Staged.{rows_is}

same_choice : (a b : Choice) → ◌≡◌ {A = Option Choice} (Some a) (Some b) → a ≡ b
same_choice a b e = cc

-- there is one stage of each number
pub reached_same : (columns : List ℕ) (given : List Numbered) (s : ℕ) (a b : Stage) → IsReached columns given s a → IsReached columns given s b → a ≡ b
reached_same columns given zero a b p q = p.1 ∙ sym q.1
reached_same columns given (suc s) a b p q =
    let before : Stage = p.0 in
    let other : Stage = q.0 in
    let same : before ≡ other = reached_same columns given s before other p.1 q.1 in
    let first : Choice = p.2.choice in
    let second : Choice = q.2.choice in
    let here : choice_of columns (tidied_rows other) ≡ Some first = subst (λ (at : Stage). choice_of columns (tidied_rows at) ≡ Some first) same p.2.chooses.chosen in
    let chosen : first ≡ second = same_choice first second (sym here ∙ q.2.chooses.chosen) in
    p.2.next ∙ ap (λ (at : Stage). stage_after first at) same ∙ ap (λ (choice : Choice). stage_after choice other) chosen ∙ sym q.2.next

-- a stage that isn't the last is followed by one
followed : (columns : List ℕ) (given : List Numbered) (s more : ℕ) (b : Stage) → IsReached columns given (suc (more + s)) b
    → (a : Stage) × IsReached columns given s a × ((next : Stage) × Follows columns a next)
followed columns given s zero b p =
    let none : 0 + s ≡ s = omega arith in
    let P : ℕ → Type 0 = λ n. IsReached columns given n p.0 in
    (p.0, subst P none p.1, (b, p.2))
followed columns given s (suc more) b p =
    let same : suc more + s ≡ suc (more + s) = omega arith in
    let P : ℕ → Type 0 = λ n. IsReached columns given n p.0 in
    followed columns given s more p.0 (subst P same p.1)

pub few_or_many : (rows : List Numbered) → HasFew rows → HasMany rows → ⊥
few_or_many rows few many = omega (arith, few, many)

-- no stage follows this one
abbrev pub Halts : List ℕ → Stage → Type 0
Halts columns stage = (next : Stage) → ¬ Follows columns stage next

pub ends_halts : (columns : List ℕ) (a : Stage) (ended : Ended) → EndsBy columns a ended → Halts columns a
ends_halts columns a (Refuted number) ends next follows =
    let some : ◌≡◌ {A = Option ℕ} (Some ends.0) None = sym ends.1 ∙ follows.chooses.unrefuted in absurd (cc)
ends_halts columns a (Left left) ends next follows =
    let some : ◌≡◌ {A = Option Choice} (Some follows.choice) None = sym follows.chooses.chosen ∙ ends.1 in absurd (cc)

pub one_choice : (columns : List ℕ) (a : Stage) (first second : Choice) → Chooses columns a first → Chooses columns a second → first ≡ second
one_choice columns a first second p q = same_choice first second (sym p.chosen ∙ q.chosen)

pub leaving_halts : (columns : List ℕ) (a : Stage) (choice : Choice) → Chooses columns a choice → ¬ StaysWide choice (tidied_rows a) → Halts columns a
leaving_halts columns a choice chooses leaves next follows =
    let same : follows.choice ≡ choice = one_choice columns a follows.choice choice follows.chooses chooses in
    let P : Choice → Type 0 = λ it. StaysWide it (tidied_rows a) in
    leaves (subst P same follows.wide)

pub growing_halts : (columns : List ℕ) (a : Stage) (choice : Choice) → Chooses columns a choice → HasMany (rows_after choice a) → Halts columns a
growing_halts columns a choice chooses many next follows =
    let same : follows.choice ≡ choice = one_choice columns a follows.choice choice follows.chooses chooses in
    let rows : next.rows ≡ rows_after choice a = rows_is follows.choice a next follows.next ∙ ap (λ (it : Choice). rows_after it a) same in
    let P : List Numbered → Type 0 = HasFew in
    absurd (few_or_many (rows_after choice a) (subst P rows follows.few) many)

last_is_last : (columns : List ℕ) (given : List Numbered) (s t : ℕ) (a b : Stage) → IsReached columns given s a → Halts columns a
    → IsReached columns given t b → t ≤ s
last_is_last columns given s t a b p halts q = elim (cases_lt s t) [
  | inl later ↦
      (let back : t ≡ suc ((t - (s + 1)) + s) = omega (arith, later) in
      let P : ℕ → Type 0 = λ n. IsReached columns given n b in
      let here = followed columns given s (t - (s + 1)) b (subst P back q) in
      let stage : Stage = here.0 in
      let same : stage ≡ a = reached_same columns given s stage a here.1 p in
      let next : Stage = here.2.0 in
      let Q : Stage → Type 0 = λ at. Follows columns at next in
      absurd (halts next (subst Q same here.2.1)))
  | inr within ↦ within
]

-- the last stage is the only one
pub record OneLast (s t : ℕ) (a b : Stage) : Type 0 where
  pub number : s ≡ t
  pub stage : a ≡ b

pub one_last : (columns : List ℕ) (given : List Numbered) (s t : ℕ) (a b : Stage) → IsReached columns given s a → Halts columns a
    → IsReached columns given t b → Halts columns b → OneLast s t a b
one_last columns given s t a b p first q second =
    let up : t ≤ s = last_is_last columns given s t a b p first q in
    let down : s ≤ t = last_is_last columns given t s b a q second p in
    let same : t ≡ s = omega (arith, up, down) in
    let P : ℕ → Type 0 = λ n. IsReached columns given n b in
    record { number = sym same; stage = reached_same columns given s a b p (subst P same q) }

-- the first stage has few rows
pub given_few : (columns : List ℕ) (given : List Numbered) (s : ℕ) (a : Stage) → IsReached columns given s a → HasFew given
given_few columns given zero a p = let P : Stage → Type 0 = λ at. HasFew at.rows in subst P p.1 p.0
given_few columns given (suc s) a p = given_few columns given s p.0 p.1

-- a system that a row refutes isn't one that no row refutes
pub ends_apart : (columns : List ℕ) (a b : Stage) (number : ℕ) (left : List Numbered) → a ≡ b → EndsBy columns a (Refuted number) → ¬ EndsBy columns b (Left left)
ends_apart columns a b number left same p q =
    let none : contradiction_in a.next a.rows ≡ None = subst (λ (at : Stage). contradiction_in at.next at.rows ≡ None) (sym same) q.0 in
    let some : ◌≡◌ {A = Option ℕ} (Some p.0) None = sym p.1 ∙ none in
    absurd (cc)

pub one_verdict : (system : Polyhedron) (steps : List Step) (trail : List Eliminated) → IsRefutedBy system steps → ¬ IsUnrefuted system trail
one_verdict system steps trail refuted unrefuted =
    let columns : List ℕ = free_columns None system.width in
    let given : List Numbered = given_rows system.rows in
    let p = refuted.ends in
    let q = unrefuted.ends in
    let first : Stage = p.stage in
    let second : Stage = q.stage in
    let last = one_last columns given p.number q.number first second p.reached (ends_halts columns first (Refuted refuted.number) p.ends) q.reached (ends_halts columns second (Left unrefuted.left) q.ends) in
    ends_apart columns first second refuted.number unrefuted.left last.stage p.ends q.ends
