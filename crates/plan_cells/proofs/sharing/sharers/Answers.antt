use Rattle.std.proofs.Common.{◌∷◌, ◌++◌, [], sym, ◌∙◌, arith}
use Rattle.std.proofs.lemmas.List.FromFn.{map-range_with_len_more}
use Rattle.target_map.specs.Storage.{shares_space}
use Rattle.plan_cells.proofs.sharing.sharers.Goals as goal

pub variables-preserved : goal.variables-preserved
variables-preserved c =
    c.in_ok-push.ensures.items
    ∙ ((λ i. c.variables.invariant i ++ c.shares_space.ensures i ∷ []) ∙ sym (map-range_with_len_more (shares_space c.args.mapping.now c.args.x) 0 c.variables.y c.variables.y (omega arith)))
