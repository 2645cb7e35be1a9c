use Rattle.std.proofs.Common.{◌≡◌, ◌≤◌, ◌+◌, ◌∷◌, suc, List, length, drop, arith, ap, sym, subst, ◌∙◌}
use Rattle.domain_check.specs.Cases.{domain_series, domain_series_from}
use Rattle.domain_check.proofs.Loops.{drop_next, drop_end, series_more, series_stopped, series_end}
use Rattle.domain_check.proofs.decide.decide_domains.Goals as goal

pub returns-in-Err : goal.returns-in-Err
returns-in-Err c =
    let p = c.args.program.now in
    let items = c.variables-variables.result.now in
    let i = c.variables.number in
    let variable = c.index-variables-number.result in
    let next : suc i ≡ i + 1 = omega arith in
    let split = ap (domain_series_from p i) (drop_next items i variable c.variables-test.true c.index-variables-number.is)
    ∙ ap (λ n. domain_series p i variable ∷ domain_series_from p n (drop (i + 1) items)) next in
    series_stopped (domain_series_from p 0 p.variables) (domain_series_from p i (drop i items)) (domain_series_from p (i + 1) (drop (i + 1) items)) (domain_series p i variable)
    c.variables.invariant split c.in-Err.fault (c.in-Err.ensures {u = tt})

pub variables-preserved : goal.variables-preserved
variables-preserved c =
    let p = c.args.program.now in
    let items = c.variables-variables.result.now in
    let i = c.variables.number in
    let variable = c.index-variables-number.result in
    let next : suc i ≡ i + 1 = omega arith in
    let split = ap (domain_series_from p i) (drop_next items i variable c.variables-test.true c.index-variables-number.is)
    ∙ ap (λ n. domain_series p i variable ∷ domain_series_from p n (drop (i + 1) items)) next in
    series_more (domain_series_from p 0 p.variables) (domain_series_from p i (drop i items)) (domain_series_from p (i + 1) (drop (i + 1) items)) (domain_series p i variable)
    c.variables.invariant split (c.in-Ok.ensures {u = tt})

pub returns : goal.returns
returns c =
    let p = c.args.program.now in
    let items = c.variables-variables.result.now in
    let i = c.variables.number in
    let end : i ≡ length items = omega arith in
    series_end (domain_series_from p 0 p.variables) (domain_series_from p i (drop i items)) c.variables.invariant (ap (domain_series_from p i) (drop_end items i end))
