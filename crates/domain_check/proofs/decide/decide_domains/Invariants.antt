use Rattle.std.proofs.Common.{drop}
use Rattle.domain_check.specs.Cases.{domain_series_from}
use Rattle.domain_check.proofs.Loops.{SeriesGoOn}
use Rattle.domain_check.proofs.decide.decide_domains.Given as goal

abbrev pub invariant-variables : goal.invariant-variables
invariant-variables l = SeriesGoOn (domain_series_from l.program 0 l.program.variables) (domain_series_from l.program l.number (drop l.number l.variables))
