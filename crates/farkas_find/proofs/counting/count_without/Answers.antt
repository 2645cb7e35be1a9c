use Rattle.std.proofs.Common.{arith}
use Rattle.farkas_find.proofs.Paired.{length-without}
use Rattle.farkas_find.proofs.counting.count_without.Goals as goal

pub returns-clause-value : goal.returns-clause-value
returns-clause-value c = omega (arith, length-without c.args.column c.args.rows.now)
