use Rattle.std.proofs.Common.{◌≡◌, drop}
use Rattle.std.specs.List.{list_any}
use Rattle.std.specs.Prelude.{map}
use Rattle.program_names.specs.Pieces as pieces
use Rattle.program_names.specs.Sides.{of_links}
use Rattle.program_names.proofs.rows.some_of_chain.Given as goal

-- the links that are left decide
abbrev pub invariant-links : goal.invariant-links
invariant-links g l =
    list_any (g.P.PieceTest.wants l.test) (map (pieces.row l.scope) (of_links l.left (drop l.link-index l.link-items)))
    ≡ list_any (g.P.PieceTest.wants l.test) (map (pieces.row l.scope) (of_links l.fn.chain.first l.link-items))
