use Rattle.std.proofs.Common.{◌<◌, ◌^◌, arith, rules}
use Rattle.command_words.proofs.Found.{one_decimal}
use Rattle.command_words.proofs.count.count.Goals as goal
use Rattle.command_words.proofs.count.count.Goals.{then-value-eq0-via-then-value-eq0, then-value-eq0-via-else-value-eq0+then-from-value}

pub returns-then-value-eq0-clause-none : goal.returns-then-value-eq0-clause-none
returns-then-value-eq0-clause-none c = λ count is.
    let small : c.args.most < 2 ^ 32 = search rules in
    let fits : c.in_ok-value.value < 2 ^ 128 = search rules in
    let few = is.few in
    let some = is.some in
    let same = one_decimal c.args.text.now c.in_ok-value.value count fits (omega (arith, few, small)) c.in_ok-value.ensures.found is.spelled in
    elim c.then-value-eq0.branch [
      | then-value-eq0-via-then-value-eq0 w ↦ absurd (omega (arith, same, some, w.if-value-eq0.true))
      | then-value-eq0-via-else-value-eq0+then-from-value w ↦ absurd (omega (arith, same, few, w.if-from-value.true, w.from.ensures))
    ]
