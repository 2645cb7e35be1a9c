use Rattle.std.proofs.Common.{◌≡◌, take, map, All}
use Rattle.std.specs.List.{flat_map}
use Rattle.expr_places.specs.Reads.{reads_of}
use Rattle.order_sets.specs.Orders.{orders_from}
use Rattle.order_sets.specs.Stated.{stated_claim, FitsOrder}
use Rattle.order_sets.proofs.orders.dependence_formulas.Given as goal

abbrev pub invariant-equations : goal.invariant-equations
invariant-equations l = record {
  so_far : map stated_claim l.list.items ≡ flat_map (λ equation. orders_from l.program l.mapping equation.variable 0 (reads_of l.program equation)) (take l.equation-index l.equation-items);
  fits : All (λ equation. All (FitsOrder l.program l.mapping equation.variable) (reads_of l.program equation)) (take l.equation-index l.equation-items);
}
