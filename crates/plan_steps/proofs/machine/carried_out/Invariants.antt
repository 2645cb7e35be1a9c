use Rattle.std.proofs.Common.{drop}
use Rattle.plan_steps.proofs.Machines.{IsUnder}
use Rattle.plan_steps.proofs.machine.carried_out.Given as goal

abbrev pub invariant-steps : goal.invariant-steps
invariant-steps l = IsUnder l.steps (drop l.step-index l.steps) l.constants l.loaded l.initial.stack l.stack l.cursor
