use Rattle.std.proofs.Common.{◌∙◌, arith, sym, length}
use Rattle.inline_eqs.proofs.Unused.{used-next}
use Rattle.inline_eqs.proofs.removal.still_used.Goals as goal

pub users-preserved : goal.users-preserved
users-preserved c =
    let count = length c.args.program.now.variables in
    sym (used-next c.args.program.now c.args.x c.users.y count (omega (arith, c.users-test.true, c.variable_count-y-end.ensures.value, c.users.auto.y-end)) (sym c.is_used_by.ensures ∙ c.if-is_used_by.false)) ∙ c.users.invariant
