use Rattle.std.proofs.Common.{◌≡◌, ℕ, ◌+◌, ◌-◌, ◌<◌, ◌≤◌, ◌^◌, ◌++◌, ◌∙◌, sym, ap, arith, rules, subst, List, length, length-append, refl, None, Result, Ok, Err}
use Rattle.az_lin.specs.declared.step.Step.{Step}
use Rattle.farkas_find.specs.declared.numbered.Numbered.{Numbered}
use Rattle.farkas_find.specs.declared.trail.Stage.{Stage}
use Rattle.farkas_find.specs.declared.trail.Ended.{Ended}
use Rattle.farkas_find.specs.declared.advance.Advanced.{Advanced}
use Rattle.farkas_find.specs.declared.advance.Advanced.TheVariants.{Last, Next}
use Rattle.farkas_find.specs.declared.fault.FindFault.{FindFault}
use Rattle.farkas_find.specs.declared.fault.FindFault.TheVariants.{Overflow, Limit, Memory}
use Rattle.farkas_find.specs.Tidying.{rounding_steps, contradiction_in}
use Rattle.farkas_find.specs.Choosing.{free_columns}
use Rattle.farkas_find.specs.Stages.{tidied_rows, tidied_stage, EndsBy}
use Rattle.farkas_find.specs.Inner.Nexts.{ChosenAnswers, AdvanceAnswers}
use Rattle.farkas_find.proofs.Widths.{HaveWidth-tidied}
use Rattle.farkas_find.proofs.Keeping.{length-tidied}
use Rattle.farkas_find.proofs.Rounded.{length-rounding_steps}
use Rattle.farkas_find.proofs.trail.Stage.advance.Goals as goal

-- tidying adds at most one step a row
added : (rows : List Numbered) (old new : List Step) → new ≡ old ++ rounding_steps rows
    → (length new - length old ≡ length (rounding_steps rows)) × (length (rounding_steps rows) ≤ length rows)
added rows old new is =
    let many : length new ≡ length old + length (rounding_steps rows) = ap length is ∙ length-append old (rounding_steps rows) in
    (omega arith, length-rounding_steps rows)

from_chosen : (columns : List ℕ) (stage : Stage) (number : ℕ) (result : Result Advanced FindFault) → contradiction_in stage.next stage.rows ≡ None
    → ChosenAnswers columns (tidied_stage stage) number result → AdvanceAnswers columns stage number result
from_chosen columns stage number (Ok (Last finished)) none h =
    let ended : Ended → Type 0 = EndsBy columns stage in
    record {
      ends = subst ended (sym (ap (λ f. f.ended) h.1)) (none, h.0, refl);
      steps = ap (λ f. f.steps) h.1;
      trail = ap (λ f. f.trail) h.1;
    }
from_chosen columns stage number (Ok (Next next)) none h =
    record { choice = h.0; chooses = record { unrefuted = none; chosen = h.1 }; wide = h.2.wide; few = h.2.few; next = h.2.is }
from_chosen columns stage number (Err (Overflow s)) none h = (h.0, (h.1.0, record { unrefuted = none; chosen = h.1.1 }, h.1.2, h.1.3))
from_chosen columns stage number (Err (Limit limit)) none h = (h.0, (h.1.0, record { unrefuted = none; chosen = h.1.1 }, h.1.2))
from_chosen columns stage number (Err Memory) none h = tt

pub overflow_cast-next : goal.overflow_cast-next
overflow_cast-next c =
    let more = added c.into_vec.result.items c.into_vec-steps.result.items c.tidied.new.steps.items c.in_ok-found.ensures.steps in
    let small : c.len.result - c.len-before.result < 2 ^ 32 = omega (arith, more.0, more.1, c.len.ensures, c.len-before.ensures, c.tidied.new.steps.ok.0, c.into_vec-steps.result.ok.0, ap length c.into_vec.ensures) in
    search rules

pub overflow_add-next : goal.overflow_add-next
overflow_add-next c =
    let more = added c.into_vec.result.items c.into_vec-steps.result.items c.tidied.new.steps.items c.in_ok-found.ensures.steps in
    let small : c.args.self.next + (c.len.result - c.len-before.result) < 2 ^ 32 = omega (arith, more.0, more.1, c.len.ensures, c.len-before.ensures, c.tidied.new.steps.ok.0, c.into_vec-steps.result.ok.0, ap length c.into_vec.ensures) in
    search rules

pub choose_column-requires-clause-numbers : goal.choose_column-requires-clause-numbers
choose_column-requires-clause-numbers c =
    let more = added c.into_vec.result.items c.into_vec-steps.result.items c.tidied.new.steps.items c.in_ok-found.ensures.steps in
    omega (arith, more.0, more.1, c.len.ensures, c.len-before.ensures, c.tidied.new.steps.ok.0, c.into_vec-steps.result.ok.0, ap length c.into_vec.ensures)

pub choose_column-requires-clause-widths : goal.choose_column-requires-clause-widths
choose_column-requires-clause-widths c =
    let found = rw c.in-Kept.is at c.in_ok-found.ensures.result in
    rw (c.from_vec-rows.ensures, found.1, c.into_vec.ensures) (HaveWidth-tidied c.args.width c.args.self.next c.args.self.rows c.requires.widths)

pub choose_column-requires-clause-few : goal.choose_column-requires-clause-few
choose_column-requires-clause-few c =
    let found = rw c.in-Kept.is at c.in_ok-found.ensures.result in
    let short = length-tidied c.args.self.next c.args.self.rows in
    rw (c.from_vec-rows.ensures, found.1, c.into_vec.ensures) (omega (arith, short, c.requires.few))

pub returns-in-Kept : goal.returns-in-Kept
returns-in-Kept c =
    let found = rw c.in-Kept.is at c.in_ok-found.ensures.result in
    let stage = c.args.self in
    let more = added c.into_vec.result.items c.into_vec-steps.result.items c.tidied.new.steps.items c.in_ok-found.ensures.steps in
    let count : c.len.result - c.len-before.result ≡ length (rounding_steps c.into_vec.result.items) =
    omega (arith, more.0, more.1, c.len.ensures, c.len-before.ensures, c.tidied.new.steps.ok.0, c.into_vec-steps.result.ok.0) in
    let rows : c.from_vec-rows.result ≡ tidied_rows stage = c.from_vec-rows.ensures ∙ found.1 ∙ rw c.into_vec.ensures refl in
    let steps : c.from_vec-steps.result ≡ stage.steps ++ rounding_steps stage.rows = c.from_vec-steps.ensures ∙ c.in_ok-found.ensures.steps ∙ rw (c.into_vec-steps.ensures, c.into_vec.ensures) refl in
    let next : stage.next + (c.len.result - c.len-before.result) ≡ stage.next + length (rounding_steps stage.rows) =
    ap (λ n. stage.next + n) count ∙ ap (λ xs. stage.next + length (rounding_steps xs)) c.into_vec.ensures in
    let made : Stage = record { rows = c.from_vec-rows.result; next = stage.next + (c.len.result - c.len-before.result); steps = c.from_vec-steps.result; trail = stage.trail } in
    let same : made ≡ tidied_stage stage = rw (rows, next, steps) refl in
    let P : Stage → Type 0 = λ s. ChosenAnswers (free_columns c.args.kept c.args.width) s c.args.number c.choose_column.result in
    from_chosen (free_columns c.args.kept c.args.width) stage c.args.number c.choose_column.result (rw (← c.into_vec.ensures) found.0) (subst P same c.choose_column.ensures)
