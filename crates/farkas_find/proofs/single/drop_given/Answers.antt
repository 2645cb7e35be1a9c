use Rattle.std.proofs.Common.{◌≡◌, ℕ, ◌+◌, ◌<◌, ◌^◌, ◌∙◌, ◌++◌, ap, arith, rules, subst, List, [], length, refl, None, Result, Ok, Err, inr}
use Rattle.az_lin.specs.declared.step.Step.{Step}
use Rattle.farkas_find.specs.declared.numbered.Numbered.{Numbered}
use Rattle.farkas_find.specs.declared.left.Left.{Left}
use Rattle.farkas_find.specs.declared.left.Left.TheVariants.{Contradiction, Rows}
use Rattle.farkas_find.specs.declared.fault.FindFault.{FindFault}
use Rattle.farkas_find.specs.declared.fault.FindFault.TheVariants.{Overflow, Limit, Memory}
use Rattle.farkas_find.specs.Tidying.{rounding_steps, contradiction_in, tidied}
use Rattle.farkas_find.specs.Stages.{HasFew}
use Rattle.farkas_find.specs.Answers.{DropAnswers}
use Rattle.farkas_find.specs.Inner.Nexts.{DroppedAnswers}
use Rattle.farkas_find.proofs.Keeping.{length-tidied}
use Rattle.farkas_find.proofs.Rounded.{length-rounding_steps}
use Rattle.farkas_find.proofs.Widths.{HaveWidth-tidied}
use Rattle.farkas_find.proofs.single.drop_given.Goals as goal

from_dropped : (column next : ℕ) (given : List Numbered) (result : Result Left FindFault) → HasFew given → contradiction_in (length given) given ≡ None
    → next ≡ length given + length (rounding_steps given) → DroppedAnswers column next (tidied (length given) given) result → DropAnswers column given result
from_dropped column next given (Ok Contradiction) few none count h = absurd h
from_dropped column next given (Ok (Rows left)) few none count h =
    let P : ℕ → Type 0 = λ n. DroppedAnswers column n (tidied (length given) given) (Ok (Rows left)) in
    let all = subst P count h in
    (few, record { unrefuted = none; few = all.0; wide = all.1; rows = all.2 })
from_dropped column next given (Err (Overflow s)) few none count h =
    let P : ℕ → Type 0 = λ n. DroppedAnswers column n (tidied (length given) given) (Err (Overflow s)) in
    let all = subst P count h in
    (all.0, few, record { unrefuted = none; few = all.1; leaves = all.2 })
from_dropped column next given (Err (Limit limit)) few none count h =
    let P : ℕ → Type 0 = λ n. DroppedAnswers column n (tidied (length given) given) (Err (Limit limit)) in
    let all = subst P count h in
    (all.0, inr (record { unrefuted = none; many = all.1 }))
from_dropped column next given (Err Memory) few none count h = tt

added : (given : List Numbered) (old new : List Step) → old ≡ [] → new ≡ old ++ rounding_steps given → length new ≡ length (rounding_steps given)
added given old new none is = ap length is ∙ rw none refl

pub overflow_cast-len : goal.overflow_cast-len
overflow_cast-len c =
    let more = added c.args.given.items c.new-steps.result.items c.tidied.new.steps.items c.new-steps.ensures.items c.in_ok-tidied.ensures.steps in
    let small : c.len.result < 2 ^ 32 = omega (arith, more, c.len.ensures, c.tidied.new.steps.ok.0, length-rounding_steps c.args.given.items, c.requires.few) in
    search rules

pub overflow_add-next : goal.overflow_add-next
overflow_add-next c =
    let more = added c.args.given.items c.new-steps.result.items c.tidied.new.steps.items c.new-steps.ensures.items c.in_ok-tidied.ensures.steps in
    let small : c.len-next.result + c.len.result < 2 ^ 32 = omega (arith, more, c.len.ensures, c.tidied.new.steps.ok.0, length-rounding_steps c.args.given.items, c.requires.few, c.len-next.ensures, c.args.given.ok.0) in
    search rules

pub drop_tidied-requires-clause-numbers : goal.drop_tidied-requires-clause-numbers
drop_tidied-requires-clause-numbers c =
    let more = added c.args.given.items c.new-steps.result.items c.tidied.new.steps.items c.new-steps.ensures.items c.in_ok-tidied.ensures.steps in
    omega (arith, more, c.len.ensures, c.tidied.new.steps.ok.0, length-rounding_steps c.args.given.items, c.requires.few, c.len-next.ensures, c.args.given.ok.0)

pub drop_tidied-requires-clause-widths : goal.drop_tidied-requires-clause-widths
drop_tidied-requires-clause-widths c =
    let found = rw c.in-Kept.is at c.in_ok-tidied.ensures.result in
    rw found.1 (HaveWidth-tidied c.args.width c.len-next.result c.args.given.items c.requires.widths)

pub drop_tidied-requires-clause-few : goal.drop_tidied-requires-clause-few
drop_tidied-requires-clause-few c =
    let found = rw c.in-Kept.is at c.in_ok-tidied.ensures.result in
    let short = length-tidied c.len-next.result c.args.given.items in
    rw found.1 (omega (arith, short, c.requires.few))

pub returns : goal.returns
returns c =
    let given = c.args.given.items in
    let found = rw c.in-Kept.is at c.in_ok-tidied.ensures.result in
    let first : c.len-next.result ≡ length given = omega (arith, c.len-next.ensures, c.args.given.ok.0) in
    let more = added given c.new-steps.result.items c.tidied.new.steps.items c.new-steps.ensures.items c.in_ok-tidied.ensures.steps in
    let count : c.len-next.result + c.len.result ≡ length given + length (rounding_steps given) = omega (arith, more, first, c.len.ensures, c.tidied.new.steps.ok.0) in
    let rows_are : c.in-Kept.rows.items ≡ tidied (length given) given = found.1 ∙ ap (λ n. tidied n given) first in
    let P : List Numbered → Type 0 = λ rows. DroppedAnswers c.args.column (c.len-next.result + c.len.result) rows c.drop_tidied.result in
    let none : contradiction_in (length given) given ≡ None = rw (← first) found.0 in
    from_dropped c.args.column (c.len-next.result + c.len.result) given c.drop_tidied.result c.requires.few none count (subst P rows_are c.drop_tidied.ensures)
