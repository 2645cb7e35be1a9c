use Rattle.std.proofs.Common.{◌≡◌, ◌∷◌, ◌++◌, ◌+◌, [], take, map, ap, sym, ◌∙◌}
use Rattle.std.proofs.lemmas.List.{map_push, take_more}
use Rattle.execution.specs.declared.instance.Instance.{Instance}
use Rattle.plan_works.specs.WorkOf.{setting, load_of}
use Rattle.plan_works.proofs.makings.Makings.loads_of.Goals as goal

pub instances-preserved : goal.instances-preserved
instances-preserved c =
    let g = setting c.args.self.now.given.program.now c.args.self.now.mapping.now c.args.self.now.given.params.now c.args.self.now.given.inputs.now in
    let us = c.args.us.now in
    let u = c.u-item.result in
    let i = c.instances.u-index in
    let next : take (i + 1) us ≡ take i us ++ u ∷ [] = take_more us i u c.instances-test.true ∙ ap (λ (q : Instance). take i us ++ q ∷ []) (sym c.u-item.is) in
    c.in_ok-push.ensures.items
    ∙ ((λ k. c.instances.invariant k ++ c.in_ok-load_of.ensures k ∷ [])
    ∙ (sym (map_push (load_of g c.args.self.now.cells.now) (take i us) u) ∙ ap (map (load_of g c.args.self.now.cells.now)) (sym next)))
