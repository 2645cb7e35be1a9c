use Rattle.loop_scan.specs.Nest.Nests.{IsLastColumn}
use Rattle.loop_scan.proofs.nest.last_column.Given as goal

abbrev pub invariant-columns : goal.invariant-columns
invariant-columns l = IsLastColumn l.coefs l.column l.last
