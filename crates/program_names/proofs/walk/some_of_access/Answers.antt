use Rattle.std.proofs.Common.{length, sym, ◌∙◌}
use Rattle.std.specs.Prelude.{map}
use Rattle.std.specs.List.{list_any}
use Rattle.program_names.specs.Pieces.{place, row}
use Rattle.program_names.specs.Sides.{alone}
use Rattle.program_names.proofs.Sums.{or-false, list_any-map}
use Rattle.program_names.proofs.walk.some_of_access.Goals as goal

pub returns-else-is_wanted : goal.returns-else-is_wanted
returns-else-is_wanted g c =
    let wants = g.P.PieceTest.wants c.args.test.now in
    let scope = c.args.scope.now in
    let sides = c.args.sides.now in
    or-false (wants (place c.args.name.now (length sides))) c.some_side.result (list_any wants (map (λ side. row scope (alone side)) sides))
    (sym c.is_wanted.ensures ∙ c.if-is_wanted.false)
    (c.some_side.ensures ∙ sym (list_any-map wants (λ side. row scope (alone side)) sides))
