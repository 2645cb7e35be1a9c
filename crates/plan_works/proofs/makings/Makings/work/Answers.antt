use Rattle.std.proofs.Common.{◌++◌, List, map, ap, subst, ◌∙◌}
use Rattle.std.specs.Prelude.{Contains}
use Rattle.execution.specs.declared.instance.Instance.{Instance}
use Rattle.plan_steps.specs.Settled.{AtBody, IsSettled, RefusesBody}
use Rattle.plan_works.specs.WorkOf.{setting, load_of}
use Rattle.plan_works.proofs.Makes.{load-is-instance, work-is}
use Rattle.plan_works.proofs.makings.Makings.work.Goals as goal

pub returns-in-Err-clause-cause : goal.returns-in-Err-clause-cause
returns-in-Err-clause-cause c =
    let p = c.args.self.now.given.program.now in
    let tables = c.args.self.now.given.inputs.now in
    subst (λ k. AtBody p tables c.args.u.now.variable (λ e. RefusesBody p tables e (c.args.self.now.given.params.now ++ k) c.args.room.points c.args.room.loads c.in-Err.fault)) c.as_slice.ensures c.in-Err.ensures.cause

pub loads_of-requires-clause-listed : goal.loads_of-requires-clause-listed
loads_of-requires-clause-listed c =
    let p = c.args.self.now.given.program.now in
    let tables = c.args.self.now.given.inputs.now in
    let params = c.args.self.now.given.params.now in
    let u = c.args.u.now in
    let g = setting p c.args.self.now.mapping.now params tables in
    let h = subst (λ k. AtBody p tables u.variable (λ e. IsSettled p tables e (params ++ k) c.settle.new.body)) c.as_slice.ensures c.in-Ok.ensures.ok in
    λ v m. c.requires.can.every v (load-is-instance g c.requires.can.certified c.args.self.now.cells.now u c.requires.instance c.settle.new.body h v (subst (λ us. Contains us v) c.loads.ensures m))

pub returns-clause-ok : goal.returns-clause-ok
returns-clause-ok c =
    let p = c.args.self.now.given.program.now in
    let tables = c.args.self.now.given.inputs.now in
    let params = c.args.self.now.given.params.now in
    let u = c.args.u.now in
    let numbers = c.args.self.now.cells.now in
    let g = setting p c.args.self.now.mapping.now params tables in
    let h = subst (λ k. AtBody p tables u.variable (λ e. IsSettled p tables e (params ++ k) c.settle.new.body)) c.as_slice.ensures c.in-Ok.ensures.ok in
    work-is g c.requires.can.certified numbers u c.requires.instance c.settle.new.body h _ c.in_ok-instance.ensures (c.in_ok-loads.ensures ∙ ap (λ (us : List Instance). map (load_of g numbers) us) c.loads.ensures) c.in_ok-cell.ensures
    (c.from_vec-steps.ensures ∙ (c.in_ok-from_slice.ensures.items ∙ c.steps.ensures)) (c.from_vec-constants.ensures ∙ (c.in_ok-from_slice-2.ensures.items ∙ c.constants.ensures))
