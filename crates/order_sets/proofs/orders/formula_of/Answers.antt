use Rattle.std.proofs.Common.{[], ◌∷◌, ◌++◌}
use Rattle.domain_check.specs.Context.{context}
use Rattle.order_sets.specs.NotBefore.{not_before}
use Rattle.order_sets.specs.Rows.{stamp_of}
use Rattle.order_sets.proofs.Making.{new_made, pushed, all_made}
use Rattle.order_sets.proofs.orders.formula_of.Goals as goal

pub returns : goal.returns
returns c =
    let around = context c.args.scope.now in
    let last = not_before c.args.sizes.now (stamp_of c.args.point.now) (stamp_of c.args.reader.now) in
    all_made (around ++ last ∷ []) c.push.new.self c.all.result c.all.ensures
    (pushed around last c.push_context.new.members c.push.new.self c.in_ok-not_before.field-0 c.in_ok-not_before.ensures c.in_ok-push.ensures
    (c.in_ok-push_context.ensures [] (new_made c.new-members.result c.new-members.ensures)))
