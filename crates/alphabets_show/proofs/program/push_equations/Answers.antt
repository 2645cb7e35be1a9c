use Rattle.std.proofs.Common.{◌≡◌, arith, length}
use Rattle.alphabets_show.specs.Shown.{equation}
use Rattle.alphabets_show.proofs.Texts.{item_more, all_written, further_one}
use Rattle.alphabets_show.proofs.program.push_equations.Goals as goal

pub loop-equation-preserved : goal.loop-equation-preserved
loop-equation-preserved c =
    let step = item_more (equation c.args.declared.params.now c.args.declared.variables.now) c.args.equations.now c.loop-equation.equation-index c.equation-item.result c.loop-equation-test.true c.equation-item.is in
    further_one _ _ _ _ _ _ c.loop-equation.invariant c.in_ok-push_equation.ensures.ok step

pub returns : goal.returns
returns c =
    let end : c.loop-equation.equation-index ≡ length c.args.equations.now = omega arith in
    record { ok = all_written (equation c.args.declared.params.now c.args.declared.variables.now) c.args.equations.now c.loop-equation.equation-index _ _ end c.loop-equation.invariant }
