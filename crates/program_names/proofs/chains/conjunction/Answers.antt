use Rattle.std.proofs.Common.{length, drop, sym, subst}
use Rattle.std.specs.Prelude.{map, All}
use Rattle.az_lin.specs.Affine.{HasWidth}
use Rattle.program_names.specs.Sides.{row_of, of_chains}
use Rattle.program_names.proofs.RowLists.{all-first, rows-wide}
use Rattle.program_names.proofs.chains.conjunction.Goals as goal

pub new-requires : goal.new-requires
new-requires c =
    let scope = c.args.scope.now in
    let chains = c.args.chains.now in
    subst (λ n. All (HasWidth n) c.chains.rows) (sym c.len.ensures)
    (all-first (HasWidth (length scope)) c.chains.rows (map (row_of scope) (of_chains (drop c.chains.chain-index chains)))
    (subst (All (HasWidth (length scope))) (sym c.chains.invariant.rest) (rows-wide scope (of_chains chains))))
