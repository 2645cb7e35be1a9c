use Rattle.std.proofs.Common.{map}
use Rattle.domain_check.specs.Cases.{domain_series_from, equation_series}
use Rattle.domain_check.proofs.Steps.{all_then}
use Rattle.domain_check.proofs.decide.decide.Goals as goal

pub returns-in-Ok : goal.returns-in-Ok
returns-in-Ok c =
    let p = c.args.program.now in
    all_then (domain_series_from p 0 p.variables) (map (equation_series p) p.equations) (c.in-Ok.ensures {u = tt}) c.decide_equations.result c.decide_equations.ensures
