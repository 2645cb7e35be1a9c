use Rattle.std.proofs.Common.{◌≡◌, ◌++◌, take, map, All}
use Rattle.expr_places.specs.Lent.{read_of}
use Rattle.order_sets.specs.Orders.{orders_from}
use Rattle.order_sets.specs.Stated.{stated_claim, FitsOrder}
use Rattle.order_sets.proofs.orders.push_orders.Given as goal

abbrev pub invariant-reads : goal.invariant-reads
invariant-reads l = record {
  so_far : map stated_claim l.list.items ≡ map stated_claim l.initial.list.items ++ orders_from l.program l.mapping l.x 0 (map read_of (take l.number l.reads.items));
  fits : All (FitsOrder l.program l.mapping l.x) (map read_of (take l.number l.reads.items));
}
