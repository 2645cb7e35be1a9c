use Rattle.std.proofs.Common.{◌≡◌, ℕ, ◌+◌, ◌-◌, ◌<◌, ◌≤◌, ◌^◌, ◌++◌, ◌∙◌, ap, arith, rules, List, [], ◌∷◌, length, map, length-append, refl}
use Rattle.std.proofs.lemmas.List.{length-map}
use Rattle.az_lin.specs.declared.step.Step.{Step}
use Rattle.farkas_find.specs.declared.numbered.Numbered.{Numbered}
use Rattle.farkas_find.specs.declared.choice.Choice.{Choice}
use Rattle.farkas_find.specs.declared.trail.Stage.{Stage}
use Rattle.farkas_find.specs.declared.trail.Eliminated.{Eliminated}
use Rattle.farkas_find.specs.Combining.{step_at}
use Rattle.farkas_find.specs.Stages.{HasFew, pairs_for, next_rows, rows_with, without_column}
use Rattle.farkas_find.proofs.Keeping.{length-next_rows}
use Rattle.farkas_find.proofs.trail.Stage.without_column.Goals as goal

-- as many steps are added as there are pairs
added : (choice : Choice) (next : ℕ) (rows : List Numbered) (old new : List Step) → HasFew (next_rows choice next rows)
    → new ≡ old ++ map (step_at choice.column rows) (pairs_for choice rows)
    → (length new - length old ≡ length (pairs_for choice rows)) × (length (pairs_for choice rows) ≤ 20000)
added choice next rows old new few is =
    let many : length new ≡ length old + length (pairs_for choice rows) =
    ap length is ∙ length-append old (map (step_at choice.column rows) (pairs_for choice rows))
    ∙ ap (λ n. length old + n) (length-map (pairs_for choice rows) (step_at choice.column rows)) in
    (omega arith, omega (arith, length-next_rows choice next rows))

stage_is : (choice : Choice) (stage : Stage) (rows : List Numbered) (next : ℕ) (steps : List Step) (trail : List Eliminated)
    → rows ≡ next_rows choice stage.next stage.rows → next ≡ stage.next + length (pairs_for choice stage.rows)
    → steps ≡ stage.steps ++ map (step_at choice.column stage.rows) (pairs_for choice stage.rows)
    → trail ≡ stage.trail ++ record { column = choice.column; rows = rows_with choice.column stage.rows } ∷ []
    → record { rows = rows; next = next; steps = steps; trail = trail } ≡ without_column choice stage
unfolding without_column
stage_is choice stage rows next steps trail r n s t = rw (r, n, s, t) refl

pub overflow_cast-next : goal.overflow_cast-next
overflow_cast-next c =
    let made = c.in_ok-made.ensures.result in
    let more = added c.args.choice.now c.args.self.next c.into_vec-rows.result.items c.into_vec-steps.result.items c.next_rows.new.steps.items made.few c.in_ok-made.ensures.steps in
    let small : c.len.result - c.len-before.result < 2 ^ 32 = omega (arith, more.0, more.1, c.len.ensures, c.len-before.ensures, c.next_rows.new.steps.ok.0, c.into_vec-steps.result.ok.0) in
    search rules

pub overflow_add-next : goal.overflow_add-next
overflow_add-next c =
    let made = c.in_ok-made.ensures.result in
    let more = added c.args.choice.now c.args.self.next c.into_vec-rows.result.items c.into_vec-steps.result.items c.next_rows.new.steps.items made.few c.in_ok-made.ensures.steps in
    let small : c.args.self.next + (c.len.result - c.len-before.result) < 2 ^ 32 = omega (arith, more.0, more.1, c.len.ensures, c.len-before.ensures, c.next_rows.new.steps.ok.0, c.into_vec-steps.result.ok.0) in
    search rules

pub returns : goal.returns
returns c =
    let choice = c.args.choice.now in
    let made = c.in_ok-made.ensures.result in
    let rows_same : c.into_vec-rows.result.items ≡ c.args.self.rows = c.into_vec-rows.ensures in
    let more = added choice c.args.self.next c.into_vec-rows.result.items c.into_vec-steps.result.items c.next_rows.new.steps.items made.few c.in_ok-made.ensures.steps in
    let count : c.len.result - c.len-before.result ≡ length (pairs_for choice c.into_vec-rows.result.items) =
    omega (arith, more.0, more.1, c.len.ensures, c.len-before.ensures, c.next_rows.new.steps.ok.0, c.into_vec-steps.result.ok.0) in
    let rows : c.from_vec-2.result ≡ next_rows choice c.args.self.next c.args.self.rows = c.from_vec-2.ensures ∙ made.rows ∙ ap (next_rows choice c.args.self.next) rows_same in
    let pushed = rw c.in_ok-of_memory.ensures at c.push.ensures.ok in
    record {
      few = rw rows (rw (← rows_same) made.few);
      wide = rw (← rows_same) made.wide;
      is = stage_is choice c.args.self c.from_vec-2.result (c.args.self.next + (c.len.result - c.len-before.result)) c.from_vec-3.result c.push.new.self rows
          (ap (λ n. c.args.self.next + n) count ∙ ap (λ xs. c.args.self.next + length (pairs_for choice xs)) rows_same)
          (c.from_vec-3.ensures ∙ c.in_ok-made.ensures.steps ∙ rw (rows_same, c.into_vec-steps.ensures) refl)
          (pushed ∙ rw (c.from_vec.ensures, made.used, rows_same) refl);
    }
