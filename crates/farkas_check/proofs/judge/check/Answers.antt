use Rattle.farkas_check.proofs.Soundness.{verdict_refutes}
use Rattle.farkas_check.proofs.Traces.{verdict_balances}
use Rattle.farkas_check.proofs.judge.check.Goals as goal

pub returns-clause-refutes : goal.returns-clause-refutes
returns-clause-refutes c = verdict_refutes c.args.system.now c.args.derivation.now.steps c.judge.result c.judge.ensures

pub returns-clause-multipliers : goal.returns-clause-multipliers
returns-clause-multipliers c = verdict_balances c.args.system.now.rows c.args.derivation.now.steps c.judge.result c.judge.ensures
