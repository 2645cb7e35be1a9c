use Rattle.std.proofs.Common.{rules, ◌≡◌, List, length, sym, subst}
use Rattle.std.specs.Prelude.{map, All}
use Rattle.az_lin.specs.Affine.{HasWidth}
use Rattle.grammar_rules.specs.declared.term.Term.{Term}
use Rattle.side_rows.specs.Sides.{row_of, alone}
use Rattle.side_rows.proofs.Widths.{sides-wide}
use Rattle.side_rows.proofs.maps.map_of.Goals as goal

pub new-requires : goal.new-requires
new-requires c =
    let scope = c.args.scope.now in
    let same : c.in_ok-rows.rows ≡ map (λ (side : List Term). row_of scope (alone side)) c.args.sides.now = search rules in
    subst (λ n. All (HasWidth n) c.in_ok-rows.rows) (sym c.len.ensures)
    (subst (All (HasWidth (length scope))) (sym same) (sides-wide scope c.args.sides.now))
