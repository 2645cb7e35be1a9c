-- Two answers to one system are the same, unless memory ran out for one of them.
use Rattle.std.proofs.Common.{◌≡◌, ◌⊎◌, inl, inr, ℕ, ◌∙◌, refl, sym, subst, ap, Option, Some, None, IsSome, List, [], ◌∷◌, ◌++◌, length, map, Result, Ok, Err}
use Rattle.az_lin.specs.Affine.{Affine, Polyhedron}
use Rattle.az_lin.specs.declared.step.Step.{Step}
use Rattle.az_lin.specs.declared.step.Derivation.{Derivation}
use Rattle.az_lin.specs.declared.step.RatPoint.{RatPoint}
use Rattle.az_lin.specs.declared.limit.Limit.{Limit as LimitName}
use Rattle.az_lin.specs.declared.limit.Limit.TheVariants.{Rows as TooManyRows}
use Rattle.farkas_find.specs.declared.numbered.Numbered.{Numbered}
use Rattle.farkas_find.specs.declared.choice.Choice.{Choice}
use Rattle.farkas_find.specs.declared.trail.Stage.{Stage}
use Rattle.farkas_find.specs.declared.trail.Eliminated.{Eliminated}
use Rattle.farkas_find.specs.declared.trail.Ended.{Ended}
use Rattle.farkas_find.specs.declared.trail.Ended.TheVariants.{Refuted, Left as LeftBy}
use Rattle.farkas_find.specs.declared.wide.WideRow.{WideRow}
use Rattle.farkas_find.specs.declared.left.Left.{Left}
use Rattle.farkas_find.specs.declared.left.Left.TheVariants.{Contradiction, Rows}
use Rattle.farkas_find.specs.declared.verdict.Decision.{Decision}
use Rattle.farkas_find.specs.declared.verdict.Decision.TheVariants.{Refuted as RefutedBy, Point}
use Rattle.farkas_find.specs.declared.fault.FindFault.{FindFault}
use Rattle.farkas_find.specs.declared.fault.FindFault.TheVariants.{Overflow, Limit, Memory}
use Rattle.farkas_find.specs.Rows.{affine_of}
use Rattle.farkas_find.specs.Tidying.{row_at, rounded_rows, rounding_steps, contradiction_in}
use Rattle.farkas_find.specs.Choosing.{free_columns}
use Rattle.farkas_find.specs.Needed.{derivation_of}
use Rattle.farkas_find.specs.BackSubstitution.{point_of, IsFoundWide}
use Rattle.farkas_find.specs.Stages.{given_rows, first_stage, HasFew, tidied_rows, rows_after, Chooses, IsReached, LeavesRangeAt, GrowsAt, PassesLimit, EndsBy, Finishes}
use Rattle.farkas_find.specs.Answers.{AreRows, TidyAnswers, choice_for, DropAnswers, EndsTo, RangeAnswers}
use Rattle.farkas_find.specs.Verdict.{IsRefutedBy, IsUnrefuted, HasPoint, LosesPoint, Decides}
use Rattle.farkas_find.specs.OneAnswer.{Agrees}
use Rattle.farkas_find.proofs.OneVerdict.{few_or_many, Halts, ends_halts, one_choice, leaving_halts, growing_halts, one_last, given_few, one_verdict}

memory_first : {A : Type 0} (other : Result A FindFault) → Agrees (Err Memory) other
memory_first other = λ some later. absurd (some refl)

memory_last : {A : Type 0} (one : Result A FindFault) → Agrees one (Err Memory)
memory_last one = λ some later. absurd (later refl)

one_limit : {A : Type 0} (limit other : LimitName) → limit ≡ TooManyRows → other ≡ TooManyRows → ◌≡◌ {A = Result A FindFault} (Err (Limit limit)) (Err (Limit other))
one_limit {A} limit other p q = let refused : LimitName → Result A FindFault = λ l. Err (Limit l) in ap refused (p ∙ sym q)

none_is_some : (found : Option ℕ) → IsSome found → found ≡ None → ⊥
none_is_some None some none = absurd (cc)
none_is_some (Some place) some none = absurd (cc)

-- rows that are handed out alike are the same
row_same : (row other : WideRow) → affine_of row ≡ affine_of other → row ≡ other
row_same row other same = ap (λ (a : Affine). let made : WideRow = record { coefs = a.coefs; konst = a.konst } in made) same

same_rows : (rows others : List WideRow) → map affine_of rows ≡ map affine_of others → rows ≡ others
same_rows [] [] same = refl
same_rows [] (other ∷ others) same = absurd (cc)
same_rows (row ∷ rows) [] same = absurd (cc)
same_rows (row ∷ rows) (other ∷ others) same =
    let first : affine_of row ≡ affine_of other = cc in
    let rest : map affine_of rows ≡ map affine_of others = cc in
    cc (row_same row other first, same_rows rows others rest)

same_left : (rows : List Numbered) (left other : List WideRow) → AreRows rows left → AreRows rows other → ◌≡◌ {A = Result Left FindFault} (Ok (Rows left)) (Ok (Rows other))
same_left rows left other p q =
    let answer : List WideRow → Result Left FindFault = λ rows. Ok (Rows rows) in
    ap answer (same_rows left other (p ∙ sym q))

pub tidy_once : (given : List Numbered) (one other : Result Left FindFault) → TidyAnswers given one → TidyAnswers given other → Agrees one other
tidy_once given (Err Memory) other p q = memory_first other
tidy_once given (Err (Overflow s)) other p q = absurd p
tidy_once given (Ok Contradiction) (Ok Contradiction) p q = λ some later. refl
tidy_once given (Ok Contradiction) (Ok (Rows left)) p q = absurd (none_is_some (contradiction_in (length given) given) p.1 q.1.0)
tidy_once given (Ok (Rows left)) (Ok Contradiction) p q = absurd (none_is_some (contradiction_in (length given) given) q.1 p.1.0)
tidy_once given (Ok (Rows left)) (Ok (Rows other)) p q = λ some later. same_left _ left other p.1.1 q.1.1
tidy_once given (Ok left) (Err (Overflow s)) p q = absurd q
tidy_once given (Ok left) (Err (Limit limit)) p q = absurd (few_or_many given p.0 q.1)
tidy_once given (Ok left) (Err Memory) p q = memory_last (Ok left)
tidy_once given (Err (Limit limit)) (Ok left) p q = absurd (few_or_many given q.0 p.1)
tidy_once given (Err (Limit limit)) (Err (Overflow s)) p q = absurd q
tidy_once given (Err (Limit limit)) (Err (Limit other)) p q = λ some later. one_limit limit other p.0 q.0
tidy_once given (Err (Limit limit)) (Err Memory) p q = memory_last (Err (Limit limit))

pub drop_once : (column : ℕ) (given : List Numbered) (one other : Result Left FindFault) → DropAnswers column given one → DropAnswers column given other → Agrees one other
drop_once column given (Err Memory) other p q = memory_first other
drop_once column given (Ok Contradiction) (Ok Contradiction) p q = λ some later. refl
drop_once column given (Ok Contradiction) (Ok (Rows left)) p q = absurd (none_is_some (contradiction_in (length given) given) p.1 q.1.unrefuted)
drop_once column given (Ok (Rows left)) (Ok Contradiction) p q = absurd (none_is_some (contradiction_in (length given) given) q.1 p.1.unrefuted)
drop_once column given (Ok (Rows left)) (Ok (Rows other)) p q = λ some later. same_left _ left other p.1.rows q.1.rows
drop_once column given (Ok Contradiction) (Err (Overflow s)) p q = absurd (none_is_some (contradiction_in (length given) given) p.1 q.2.unrefuted)
drop_once column given (Ok (Rows left)) (Err (Overflow s)) p q = absurd (q.2.leaves p.1.wide)
drop_once column given (Ok Contradiction) (Err (Limit limit)) p q =
    elim q.1 [ inl many ↦ absurd (few_or_many given p.0 many) | inr grows ↦ absurd (none_is_some (contradiction_in (length given) given) p.1 grows.unrefuted) ]
drop_once column given (Ok (Rows left)) (Err (Limit limit)) p q =
    elim q.1 [ inl many ↦ absurd (few_or_many given p.0 many) | inr grows ↦ absurd (few_or_many (rows_after (choice_for column (first_stage given)) (first_stage given)) p.1.few grows.many) ]
drop_once column given (Ok left) (Err Memory) p q = memory_last (Ok left)
drop_once column given (Err (Overflow s)) (Ok Contradiction) p q = absurd (none_is_some (contradiction_in (length given) given) q.1 p.2.unrefuted)
drop_once column given (Err (Overflow s)) (Ok (Rows left)) p q = absurd (p.2.leaves q.1.wide)
drop_once column given (Err (Overflow s)) (Err (Overflow t)) p q = λ some later. ap (λ (n : ℕ). let refused : Result Left FindFault = Err (Overflow n) in refused) (p.0 ∙ sym q.0)
drop_once column given (Err (Overflow s)) (Err (Limit limit)) p q =
    elim q.1 [ inl many ↦ absurd (few_or_many given p.1 many) | inr grows ↦ absurd (few_or_many (rows_after (choice_for column (first_stage given)) (first_stage given)) p.2.few grows.many) ]
drop_once column given (Err (Overflow s)) (Err Memory) p q = memory_last (Err (Overflow s))
drop_once column given (Err (Limit limit)) (Ok Contradiction) p q =
    elim p.1 [ inl many ↦ absurd (few_or_many given q.0 many) | inr grows ↦ absurd (none_is_some (contradiction_in (length given) given) q.1 grows.unrefuted) ]
drop_once column given (Err (Limit limit)) (Ok (Rows left)) p q =
    elim p.1 [ inl many ↦ absurd (few_or_many given q.0 many) | inr grows ↦ absurd (few_or_many (rows_after (choice_for column (first_stage given)) (first_stage given)) q.1.few grows.many) ]
drop_once column given (Err (Limit limit)) (Err (Overflow s)) p q =
    elim p.1 [ inl many ↦ absurd (few_or_many given q.1 many) | inr grows ↦ absurd (few_or_many (rows_after (choice_for column (first_stage given)) (first_stage given)) q.2.few grows.many) ]
drop_once column given (Err (Limit limit)) (Err (Limit other)) p q = λ some later. one_limit limit other p.0 q.0
drop_once column given (Err (Limit limit)) (Err Memory) p q = memory_last (Err (Limit limit))

-- a stage from which no column is chosen is the last
unchosen_halts : (columns : List ℕ) (a : Stage) → ((choice : Choice) → ¬ Chooses columns a choice) → Halts columns a
unchosen_halts columns a unchosen next follows = unchosen follows.choice follows.chooses

unchosen_end : (columns : List ℕ) (a : Stage) (left : Left) → EndsTo columns a left → (choice : Choice) → ¬ Chooses columns a choice
unchosen_end columns a Contradiction ends choice chooses = none_is_some (contradiction_in a.next a.rows) ends chooses.unrefuted
unchosen_end columns a (Rows left) ends choice chooses =
    let some : ◌≡◌ {A = Option Choice} (Some choice) None = sym chooses.chosen ∙ ends.1 in absurd (cc)

unchosen_by : (columns : List ℕ) (a : Stage) (ended : Ended) → EndsBy columns a ended → (choice : Choice) → ¬ Chooses columns a choice
unchosen_by columns a (Refuted number) ends choice chooses =
    let some : ◌≡◌ {A = Option ℕ} (Some ends.0) None = sym ends.1 ∙ chooses.unrefuted in absurd (cc)
unchosen_by columns a (LeftBy left) ends choice chooses =
    let some : ◌≡◌ {A = Option Choice} (Some choice) None = sym chooses.chosen ∙ ends.1 in absurd (cc)

-- a stage that goes no further excludes every reason to stop at a choice
no_leaving : (columns : List ℕ) (given : List Numbered) (s t : ℕ) (a : Stage) → IsReached columns given t a → ((choice : Choice) → ¬ Chooses columns a choice) → ¬ LeavesRangeAt columns given s
no_leaving columns given s t a reached unchosen h =
    let last = one_last columns given s t h.stage a h.reached (leaving_halts columns h.stage h.choice h.chooses h.leaves) reached (unchosen_halts columns a unchosen) in
    unchosen h.choice (subst (λ (at : Stage). Chooses columns at h.choice) last.stage h.chooses)

no_growing : (columns : List ℕ) (given : List Numbered) (s t : ℕ) (a : Stage) → IsReached columns given t a → ((choice : Choice) → ¬ Chooses columns a choice) → ¬ GrowsAt columns given s
no_growing columns given s t a reached unchosen h =
    let last = one_last columns given s t h.stage a h.reached (growing_halts columns h.stage h.choice h.chooses h.many) reached (unchosen_halts columns a unchosen) in
    unchosen h.choice (subst (λ (at : Stage). Chooses columns at h.choice) last.stage h.chooses)

no_passing : (columns : List ℕ) (given : List Numbered) (t : ℕ) (a : Stage) → IsReached columns given t a → ((choice : Choice) → ¬ Chooses columns a choice) → ¬ PassesLimit columns given
no_passing columns given t a reached unchosen (inl many) = few_or_many given (given_few columns given t a reached) many
no_passing columns given t a reached unchosen (inr grows) = no_growing columns given grows.0 t a reached unchosen grows.1

leaves_once : (columns : List ℕ) (given : List Numbered) (s t : ℕ) → LeavesRangeAt columns given s → LeavesRangeAt columns given t → s ≡ t
leaves_once columns given s t p q =
    (one_last columns given s t p.stage q.stage p.reached (leaving_halts columns p.stage p.choice p.chooses p.leaves)
    q.reached (leaving_halts columns q.stage q.choice q.chooses q.leaves)).number

leaves_or_grows : (columns : List ℕ) (given : List Numbered) (s : ℕ) → LeavesRangeAt columns given s → ¬ PassesLimit columns given
leaves_or_grows columns given s p (inl many) = few_or_many given (given_few columns given s p.stage p.reached) many
leaves_or_grows columns given s p (inr (t, q)) =
    let last = one_last columns given s t p.stage q.stage p.reached (leaving_halts columns p.stage p.choice p.chooses p.leaves)
    q.reached (growing_halts columns q.stage q.choice q.chooses q.many) in
    let chooses : Chooses columns q.stage p.choice = subst (λ (at : Stage). Chooses columns at p.choice) last.stage p.chooses in
    let few : HasFew (rows_after p.choice q.stage) = subst (λ (at : Stage). HasFew (rows_after p.choice at)) last.stage p.few in
    let same : p.choice ≡ q.choice = one_choice columns q.stage p.choice q.choice chooses q.chooses in
    few_or_many (rows_after q.choice q.stage) (subst (λ (choice : Choice). HasFew (rows_after choice q.stage)) same few) q.many

overflow_once : {A : Type 0} (s t : ℕ) → s ≡ t → ◌≡◌ {A = Result A FindFault} (Err (Overflow s)) (Err (Overflow t))
overflow_once {A} s t same = let refused : ℕ → Result A FindFault = λ n. Err (Overflow n) in ap refused same

ends_once : (columns : List ℕ) (a b : Stage) (left other : Left) → a ≡ b → EndsTo columns a left → EndsTo columns b other → ◌≡◌ {A = Result Left FindFault} (Ok left) (Ok other)
ends_once columns a b Contradiction Contradiction same p q = refl
ends_once columns a b Contradiction (Rows other) same p q =
    absurd (none_is_some (contradiction_in b.next b.rows) (subst (λ (at : Stage). IsSome (contradiction_in at.next at.rows)) same p) q.0)
ends_once columns a b (Rows left) Contradiction same p q =
    absurd (none_is_some (contradiction_in b.next b.rows) q (subst (λ (at : Stage). contradiction_in at.next at.rows ≡ None) same p.0))
ends_once columns a b (Rows left) (Rows other) same p q =
    same_left (tidied_rows b) left other (subst (λ (at : Stage). AreRows (tidied_rows at) left) same p.2) q.2

pub range_once : (columns : List ℕ) (given : List Numbered) (one other : Result Left FindFault) → RangeAnswers columns given one → RangeAnswers columns given other → Agrees one other
range_once columns given (Err Memory) other p q = memory_first other
range_once columns given (Ok left) (Err Memory) p q = memory_last (Ok left)
range_once columns given (Err (Overflow s)) (Err Memory) p q = memory_last (Err (Overflow s))
range_once columns given (Err (Limit limit)) (Err Memory) p q = memory_last (Err (Limit limit))
range_once columns given (Ok left) (Ok other) p q = λ some later.
    let last = one_last columns given p.0 q.0 p.1 q.1 p.2 (unchosen_halts columns p.1 (unchosen_end columns p.1 left p.3)) q.2 (unchosen_halts columns q.1 (unchosen_end columns q.1 other q.3)) in
    ends_once columns p.1 q.1 left other last.stage p.3 q.3
range_once columns given (Ok left) (Err (Overflow s)) p q = absurd (no_leaving columns given s p.0 p.1 p.2 (unchosen_end columns p.1 left p.3) q)
range_once columns given (Ok left) (Err (Limit limit)) p q = absurd (no_passing columns given p.0 p.1 p.2 (unchosen_end columns p.1 left p.3) q.1)
range_once columns given (Err (Overflow s)) (Ok other) p q = absurd (no_leaving columns given s q.0 q.1 q.2 (unchosen_end columns q.1 other q.3) p)
range_once columns given (Err (Overflow s)) (Err (Overflow t)) p q = λ some later. overflow_once s t (leaves_once columns given s t p q)
range_once columns given (Err (Overflow s)) (Err (Limit limit)) p q = absurd (leaves_or_grows columns given s p q.1)
range_once columns given (Err (Limit limit)) (Ok other) p q = absurd (no_passing columns given q.0 q.1 q.2 (unchosen_end columns q.1 other q.3) p.1)
range_once columns given (Err (Limit limit)) (Err (Overflow t)) p q = absurd (leaves_or_grows columns given t q p.1)
range_once columns given (Err (Limit limit)) (Err (Limit other)) p q = λ some later. one_limit limit other p.0 q.0

-- the verdict: one end of the stages, one log of steps, and one trail
pub record OneEnd (a b : Stage) (ended other : Ended) (log steps : List Step) (trail gone : List Eliminated) : Type 0 where
  pub stage : a ≡ b
  pub log_same : log ≡ steps
  pub trail_same : trail ≡ gone

one_end : (columns : List ℕ) (given : List Numbered) (ended other : Ended) (log steps : List Step) (trail gone : List Eliminated)
    → (p : Finishes columns given (record { ended = ended; steps = log; trail = trail })) → (q : Finishes columns given (record { ended = other; steps = steps; trail = gone }))
    → OneEnd p.stage q.stage ended other log steps trail gone
one_end columns given ended other log steps trail gone p q =
    let last = one_last columns given p.number q.number p.stage q.stage p.reached (ends_halts columns p.stage ended p.ends) q.reached (ends_halts columns q.stage other q.ends) in
    record {
      stage = last.stage;
      log_same = p.steps ∙ ap (λ (at : Stage). at.steps ++ rounding_steps at.rows) last.stage ∙ sym q.steps;
      trail_same = p.trail ∙ ap (λ (at : Stage). at.trail) last.stage ∙ sym q.trail;
    }

same_some : (k n : ℕ) → ◌≡◌ {A = Option ℕ} (Some k) (Some n) → k ≡ n
same_some k n same = cc

one_number : (columns : List ℕ) (a b : Stage) (number other : ℕ) → a ≡ b → EndsBy columns a (Refuted number) → EndsBy columns b (Refuted other) → number ≡ other
one_number columns a b number other same p q =
    let here : contradiction_in b.next b.rows ≡ Some p.0 = subst (λ (at : Stage). contradiction_in at.next at.rows ≡ Some p.0) same p.1 in
    let place : p.0 ≡ q.0 = same_some p.0 q.0 (sym here ∙ q.1) in
    p.2 ∙ ap (λ (at : Stage). (row_at (rounded_rows at.next at.rows) p.0).number) same ∙ ap (λ (k : ℕ). (row_at (rounded_rows b.next b.rows) k).number) place ∙ sym q.2

refuted_once : (system : Polyhedron) (steps others : List Step) → IsRefutedBy system steps → IsRefutedBy system others → steps ≡ others
refuted_once system steps others p q =
    let columns : List ℕ = free_columns None system.width in
    let given : List Numbered = given_rows system.rows in
    let end = one_end columns given (Refuted p.number) (Refuted q.number) p.log q.log p.trail q.trail p.ends q.ends in
    let number : p.number ≡ q.number = one_number columns p.ends.stage q.ends.stage p.number q.number end.stage p.ends.ends q.ends.ends in
    p.stated ∙ ap (λ (n : ℕ). derivation_of n (length system.rows) p.log) number
    ∙ ap (λ (log : List Step). derivation_of q.number (length system.rows) log) end.log_same ∙ sym q.stated

trail_once : (system : Polyhedron) (trail gone : List Eliminated) → IsUnrefuted system trail → IsUnrefuted system gone → trail ≡ gone
trail_once system trail gone p q =
    (one_end (free_columns None system.width) (given_rows system.rows) (LeftBy p.left) (LeftBy q.left) p.log q.log trail gone p.ends q.ends).trail_same

-- the end of the stages excludes that they leave the range or grow too long
refuted_stays : (system : Polyhedron) (steps : List Step) (s : ℕ) → IsRefutedBy system steps → ¬ LeavesRangeAt (free_columns None system.width) (given_rows system.rows) s
refuted_stays system steps s p =
    let columns : List ℕ = free_columns None system.width in
    no_leaving columns (given_rows system.rows) s p.ends.number p.ends.stage p.ends.reached (unchosen_by columns p.ends.stage (Refuted p.number) p.ends.ends)

refuted_fits : (system : Polyhedron) (steps : List Step) → IsRefutedBy system steps → ¬ PassesLimit (free_columns None system.width) (given_rows system.rows)
refuted_fits system steps p =
    let columns : List ℕ = free_columns None system.width in
    no_passing columns (given_rows system.rows) p.ends.number p.ends.stage p.ends.reached (unchosen_by columns p.ends.stage (Refuted p.number) p.ends.ends)

unrefuted_stays : (system : Polyhedron) (trail : List Eliminated) (s : ℕ) → IsUnrefuted system trail → ¬ LeavesRangeAt (free_columns None system.width) (given_rows system.rows) s
unrefuted_stays system trail s p =
    let columns : List ℕ = free_columns None system.width in
    no_leaving columns (given_rows system.rows) s p.ends.number p.ends.stage p.ends.reached (unchosen_by columns p.ends.stage (LeftBy p.left) p.ends.ends)

unrefuted_fits : (system : Polyhedron) (trail : List Eliminated) → IsUnrefuted system trail → ¬ PassesLimit (free_columns None system.width) (given_rows system.rows)
unrefuted_fits system trail p =
    let columns : List ℕ = free_columns None system.width in
    no_passing columns (given_rows system.rows) p.ends.number p.ends.stage p.ends.reached (unchosen_by columns p.ends.stage (LeftBy p.left) p.ends.ends)

point_found : (system : Polyhedron) (point : RatPoint) (stage : ℕ) → HasPoint system point → ¬ LosesPoint system stage
point_found system point stage p q =
    let same : p.trail ≡ q.trail = trail_once system p.trail q.trail p.unrefuted q.unrefuted in
    q.leaves (subst (λ (trail : List Eliminated). IsFoundWide system.width trail system.rows) same p.wide)

refuted_or_overflow : (system : Polyhedron) (steps : List Step) (s : ℕ) → IsRefutedBy system steps → ¬ (LeavesRangeAt (free_columns None system.width) (given_rows system.rows) s ⊎ LosesPoint system s)
refuted_or_overflow system steps s p (inl leaves) = refuted_stays system steps s p leaves
refuted_or_overflow system steps s p (inr loses) = one_verdict system steps loses.trail p loses.unrefuted

point_or_overflow : (system : Polyhedron) (point : RatPoint) (s : ℕ) → HasPoint system point → ¬ (LeavesRangeAt (free_columns None system.width) (given_rows system.rows) s ⊎ LosesPoint system s)
point_or_overflow system point s p (inl leaves) = unrefuted_stays system p.trail s p.unrefuted leaves
point_or_overflow system point s p (inr loses) = point_found system point s p loses

overflow_or_limit : (system : Polyhedron) (s : ℕ) → LeavesRangeAt (free_columns None system.width) (given_rows system.rows) s ⊎ LosesPoint system s
    → ¬ PassesLimit (free_columns None system.width) (given_rows system.rows)
overflow_or_limit system s (inl leaves) = leaves_or_grows (free_columns None system.width) (given_rows system.rows) s leaves
overflow_or_limit system s (inr loses) = unrefuted_fits system loses.trail loses.unrefuted

one_overflow : (system : Polyhedron) (s t : ℕ) → LeavesRangeAt (free_columns None system.width) (given_rows system.rows) s ⊎ LosesPoint system s
    → LeavesRangeAt (free_columns None system.width) (given_rows system.rows) t ⊎ LosesPoint system t → s ≡ t
one_overflow system s t (inl p) (inl q) = leaves_once (free_columns None system.width) (given_rows system.rows) s t p q
one_overflow system s t (inl p) (inr q) = absurd (unrefuted_stays system q.trail s q.unrefuted p)
one_overflow system s t (inr p) (inl q) = absurd (unrefuted_stays system p.trail t p.unrefuted q)
one_overflow system s t (inr p) (inr q) = p.last ∙ ap (λ (trail : List Eliminated). length trail) (trail_once system p.trail q.trail p.unrefuted q.unrefuted) ∙ sym q.last

same_derivation : (derivation other : Derivation) → derivation.steps ≡ other.steps → ◌≡◌ {A = Result Decision FindFault} (Ok (RefutedBy derivation)) (Ok (RefutedBy other))
same_derivation derivation other same =
    let answer : List Step → Result Decision FindFault = λ steps. Ok (RefutedBy (record { steps = steps })) in
    ap answer same

same_point : (system : Polyhedron) (point other : RatPoint) → HasPoint system point → HasPoint system other → ◌≡◌ {A = Result Decision FindFault} (Ok (Point point)) (Ok (Point other))
same_point system point other p q =
    let answer : RatPoint → Result Decision FindFault = λ at. Ok (Point at) in
    ap answer (p.stated ∙ ap (λ (trail : List Eliminated). point_of system.width trail) (trail_once system p.trail q.trail p.unrefuted q.unrefuted) ∙ sym q.stated)

pub decide_once : (system : Polyhedron) (one other : Result Decision FindFault) → Decides system one → Decides system other → Agrees one other
decide_once system (Err Memory) other p q = memory_first other
decide_once system (Ok decision) (Err Memory) p q = memory_last (Ok decision)
decide_once system (Err (Overflow s)) (Err Memory) p q = memory_last (Err (Overflow s))
decide_once system (Err (Limit limit)) (Err Memory) p q = memory_last (Err (Limit limit))
decide_once system (Ok (RefutedBy derivation)) (Ok (RefutedBy other)) p q = λ some later. same_derivation derivation other (refuted_once system derivation.steps other.steps p q)
decide_once system (Ok (RefutedBy derivation)) (Ok (Point point)) p q = absurd (one_verdict system derivation.steps q.trail p q.unrefuted)
decide_once system (Ok (Point point)) (Ok (RefutedBy derivation)) p q = absurd (one_verdict system derivation.steps p.trail q p.unrefuted)
decide_once system (Ok (Point point)) (Ok (Point other)) p q = λ some later. same_point system point other p q
decide_once system (Ok (RefutedBy derivation)) (Err (Overflow s)) p q = absurd (refuted_or_overflow system derivation.steps s p q)
decide_once system (Ok (Point point)) (Err (Overflow s)) p q = absurd (point_or_overflow system point s p q)
decide_once system (Ok (RefutedBy derivation)) (Err (Limit limit)) p q = absurd (refuted_fits system derivation.steps p q.1)
decide_once system (Ok (Point point)) (Err (Limit limit)) p q = absurd (unrefuted_fits system p.trail p.unrefuted q.1)
decide_once system (Err (Overflow s)) (Ok (RefutedBy derivation)) p q = absurd (refuted_or_overflow system derivation.steps s q p)
decide_once system (Err (Overflow s)) (Ok (Point point)) p q = absurd (point_or_overflow system point s q p)
decide_once system (Err (Overflow s)) (Err (Overflow t)) p q = λ some later. overflow_once s t (one_overflow system s t p q)
decide_once system (Err (Overflow s)) (Err (Limit limit)) p q = absurd (overflow_or_limit system s p q.1)
decide_once system (Err (Limit limit)) (Ok (RefutedBy derivation)) p q = absurd (refuted_fits system derivation.steps q p.1)
decide_once system (Err (Limit limit)) (Ok (Point point)) p q = absurd (unrefuted_fits system q.trail q.unrefuted p.1)
decide_once system (Err (Limit limit)) (Err (Overflow t)) p q = absurd (overflow_or_limit system t q p.1)
decide_once system (Err (Limit limit)) (Err (Limit other)) p q = λ some later. one_limit limit other p.0 q.0
