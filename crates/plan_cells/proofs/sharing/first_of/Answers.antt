use Rattle.std.proofs.Common.{rules, ◌≡◌, arith, false}
use Rattle.plan_cells.specs.Numbering.{first_of}
use Rattle.plan_cells.proofs.Loops.{first-step}
use Rattle.target_map.specs.Storage.{shares_space}
use Rattle.plan_cells.proofs.sharing.first_of.Goals as goal

pub variables-preserved : goal.variables-preserved
variables-preserved c =
    let out : shares_space c.args.mapping.now c.args.x c.variables.y ≡ false = search rules in
    first-step (shares_space c.args.mapping.now c.args.x) c.variables.y c.args.x (first_of c.args.mapping.now c.args.x) (omega arith) c.variables.invariant out
