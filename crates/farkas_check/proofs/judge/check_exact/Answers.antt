use Rattle.farkas_check.proofs.Soundness.{exact_verdict_refutes}
use Rattle.farkas_check.proofs.Traces.{exact_verdict_balances}
use Rattle.farkas_check.proofs.judge.check_exact.Goals as goal

pub returns-clause-refutes : goal.returns-clause-refutes
returns-clause-refutes c = exact_verdict_refutes c.args.system.now c.args.derivation.now.steps c.judge.result c.judge.ensures

pub returns-clause-multipliers : goal.returns-clause-multipliers
returns-clause-multipliers c = exact_verdict_balances c.args.system.now.rows c.args.derivation.now.steps c.judge.result c.judge.ensures
