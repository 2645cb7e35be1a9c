use Rattle.std.proofs.Common.{drop, map}
use Rattle.domain_check.specs.Cases.{equation_series}
use Rattle.domain_check.proofs.Loops.{SeriesGoOn}
use Rattle.domain_check.proofs.decide.decide_equations.Given as goal

abbrev pub invariant-equations : goal.invariant-equations
invariant-equations l = SeriesGoOn (map (equation_series l.program) l.program.equations) (map (equation_series l.program) (drop l.equation-index l.equation-items))
