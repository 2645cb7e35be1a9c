use Rattle.std.proofs.Common.{◌≡◌, ◌++◌, drop, false}
use Rattle.std.specs.List.{list_any}
use Rattle.std.specs.Prelude.{map}
use Rattle.program_names.specs.Refusals.{has_entry_out}
use Rattle.program_names.specs.Sides.{row_of, of_chains}
use Rattle.program_names.proofs.chains.conjunction.Given as goal

abbrev pub invariant-chains : goal.invariant-chains
invariant-chains l = record {
  rest : l.rows ++ map (row_of l.scope) (of_chains (drop l.chain-index l.chains)) ≡ map (row_of l.scope) (of_chains l.chains);
  fits : list_any has_entry_out (map (row_of l.scope) (of_chains (drop l.chain-index l.chains))) ≡ false;
}
