use Rattle.std.proofs.Common.{rules, is_lt}
use Rattle.std.proofs.lemmas.Fn.{always_returns_same}
use Rattle.std.proofs.lemmas.List.Sorted.{ranks_by}
use Rattle.std.proofs.lemmas.Result.{on_ok_weaker}
use Rattle.tile_waves.specs.Inner.Items.{item_cmp}
use Rattle.tile_waves.specs.declared.item.Item.{Item}
use Rattle.tile_waves.proofs.ItemOrder.{item_total}
use Rattle.tile_waves.proofs.item.sort.Goals as goal

pub returns-clause-sorted : goal.returns-clause-sorted
returns-clause-sorted c =
    on_ok_weaker c.sort_by.result
    (λ sorted. sorted (λ a b. is_lt (item_cmp a b)) (ranks_by item_total (λ (item : Item). item)) (always_returns_same _ _ _ (λ a r f k. search rules)))
    c.sort_by.ensures.sorted
