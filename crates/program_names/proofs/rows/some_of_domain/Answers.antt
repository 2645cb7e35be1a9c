use Rattle.std.proofs.Common.{length, sym, ◌∙◌}
use Rattle.std.specs.Prelude.{flat_map}
use Rattle.std.specs.List.{list_any}
use Rattle.program_names.specs.Pieces as pieces
use Rattle.program_names.specs.Pieces.{rows}
use Rattle.az_ast.proofs.Walks.{list_any-flat_map}
use Rattle.program_names.proofs.Sums.{or-false}
use Rattle.program_names.proofs.rows.some_of_domain.Goals as goal

pub returns : goal.returns
returns g c =
    let wants = g.P.PieceTest.wants c.args.test.now in
    let scope = c.args.scope.now in
    let disjuncts = c.args.disjuncts.now in
    or-false (wants (pieces.domain (length disjuncts))) c.some_of_disjuncts.result (list_any wants (flat_map (rows scope) disjuncts))
    (sym c.is_wanted.ensures ∙ c.if-is_wanted.false)
    (c.some_of_disjuncts.ensures ∙ sym (list_any-flat_map wants (rows scope) disjuncts))
