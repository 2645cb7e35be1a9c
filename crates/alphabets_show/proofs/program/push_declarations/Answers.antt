use Rattle.std.proofs.Common.{◌≡◌, arith, length}
use Rattle.alphabets_show.specs.Shown.{declaration_if}
use Rattle.alphabets_show.proofs.Texts.{item_more, all_written, further_one}
use Rattle.alphabets_show.proofs.program.push_declarations.Goals as goal

pub loop-variable-preserved : goal.loop-variable-preserved
loop-variable-preserved c =
    let step = item_more (declaration_if c.args.params.now c.args.role) c.args.variables.now c.loop-variable.variable-index c.variable-item.result c.loop-variable-test.true c.variable-item.is in
    further_one _ _ _ _ _ _ c.loop-variable.invariant c.in_ok-push_if_role.ensures.ok step

pub returns : goal.returns
returns c =
    let end : c.loop-variable.variable-index ≡ length c.args.variables.now = omega arith in
    record { ok = all_written (declaration_if c.args.params.now c.args.role) c.args.variables.now c.loop-variable.variable-index _ _ end c.loop-variable.invariant }
