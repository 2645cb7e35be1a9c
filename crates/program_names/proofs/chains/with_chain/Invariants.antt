use Rattle.std.proofs.Common.{◌≡◌, ◌++◌, drop, false}
use Rattle.std.specs.List.{list_any}
use Rattle.std.specs.Prelude.{map}
use Rattle.program_names.specs.Refusals.{has_entry_out}
use Rattle.program_names.specs.Sides.{row_of, of_links}
use Rattle.program_names.proofs.chains.with_chain.Given as goal

-- the rows so far, with those of the links that are left, which are in range
abbrev pub invariant-links : goal.invariant-links
invariant-links l = record {
  rest : l.more ++ map (row_of l.scope) (of_links l.left (drop l.link-index l.link-items))
      ≡ l.fn.rows ++ map (row_of l.scope) (of_links l.fn.chain.first l.link-items);
  fits : list_any has_entry_out (map (row_of l.scope) (of_links l.left (drop l.link-index l.link-items))) ≡ false;
}
