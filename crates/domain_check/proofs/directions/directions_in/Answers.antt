use Rattle.std.proofs.Common.{◌≡◌, ◌++◌, map, ap, ◌∙◌}
use Rattle.std.specs.List.{flat_map}
use Rattle.formula_refute.specs.Claims.{claim}
use Rattle.expr_places.specs.Directions.{slope}
use Rattle.domain_check.specs.Directions.{rows_of, along_each}
use Rattle.domain_check.proofs.Grown.{disjunct_next}
use Rattle.domain_check.proofs.directions.directions_in.Goals as goal

pub disjuncts-preserved : goal.disjuncts-preserved
disjuncts-preserved c =
    let outer = c.args.own.outer in
    let extra = c.args.own.extra in
    disjunct_next outer extra (flat_map rows_of (map (λ domain. domain.now) c.args.around.now)) c.disjuncts-conj-items.result.now c.disjuncts.conj-index c.conj-item.result
    c.disjuncts.found.items c.push_along_each.new.found.items c.new-slopes.result.items c.push_slopes_around.new.slopes.items c.push_slopes.new.slopes.items c.disjuncts-test.true c.conj-item.is
    c.disjuncts.invariant c.new-slopes.ensures.items c.in_ok-push_slopes_around.ensures
    (c.in_ok-push_slopes.ensures ∙ ap (λ rows. c.push_slopes_around.new.slopes.items ++ map (slope outer extra) rows) c.rows.ensures.value)
    (c.in_ok-push_along_each.ensures ∙ ap (λ slopes. map claim c.disjuncts.found.items ++ along_each extra slopes) c.as_slice.ensures.value)
