use Rattle.std.proofs.Common.{sym, ◌∙◌}
use Rattle.std.specs.Prelude.{map}
use Rattle.program_names.specs.Pieces as pieces
use Rattle.program_names.specs.Sides.{of_chain}
use Rattle.az_ast.proofs.Walks.{list_any-flat_map}
use Rattle.program_names.proofs.rows.some_row.Goals as goal

pub returns : goal.returns
returns g c =
    c.some_of_chains.ensures ∙ sym (list_any-flat_map (g.P.PieceTest.wants c.args.test.now) (λ chain. map (pieces.row c.args.scope.now) (of_chain chain)) c.args.chains.now)
