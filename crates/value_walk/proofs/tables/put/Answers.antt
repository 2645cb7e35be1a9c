use Rattle.std.proofs.Common.{◌≡◌, refl, sym, ap, subst, ◌∙◌, Some}
use Rattle.std.specs.Prelude.{slice_get}
use Rattle.std.specs.FinMap.{get}
use Rattle.az_ast.specs.declared.program.Role.TheVariants.{Output, Local}
use Rattle.value_walk.proofs.SlotLemmas.{on_ok}
use Rattle.value_walk.proofs.Evaluations.{put-table, get-other}
use Rattle.value_walk.proofs.tables.put.Goals as goal

pub returns-in_ok-rows-in-Output-clause-table : goal.returns-in_ok-rows-in-Output-clause-table
returns-in_ok-rows-in-Output-clause-table c =
    let p = c.args.program.now in
    let v = c.in-Some.variable.now in
    let declared : slice_get p.variables c.args.x ≡ Some v = subst (λ vs. slice_get vs c.args.x ≡ Some v) c.variables.ensures.value (sym c.in-Some.ensures) in
    on_ok c.set.result (λ e. put-table p c.args.inputs.now c.args.params.now c.args.x v declared Output c.in-Output.is refl c.args.points c.in_ok-rows-in-Output.rows c.new.result c.args.values.now c.set.new.self
    c.requires.covered c.in_ok-rows-in-Output.ensures.points c.in_ok-rows-in-Output.ensures.values c.new.ensures e) c.set.ensures.ok

pub returns-in_ok-rows-in-Output-clause-others : goal.returns-in_ok-rows-in-Output-clause-others
returns-in_ok-rows-in-Output-clause-others c =
    on_ok c.set.result (λ e y n. ap (λ m. get m y) e ∙ get-other c.args.values.now c.args.x c.new.result y n) c.set.ensures.ok

pub returns-in_ok-rows-in-Local-clause-table : goal.returns-in_ok-rows-in-Local-clause-table
returns-in_ok-rows-in-Local-clause-table c =
    let p = c.args.program.now in
    let v = c.in-Some.variable.now in
    let declared : slice_get p.variables c.args.x ≡ Some v = subst (λ vs. slice_get vs c.args.x ≡ Some v) c.variables.ensures.value (sym c.in-Some.ensures) in
    on_ok c.set-in-Local.result (λ e. put-table p c.args.inputs.now c.args.params.now c.args.x v declared Local c.in-Local.is refl c.args.points c.in_ok-rows-in-Local.rows c.new-in-Local.result c.args.values.now c.set-in-Local.new.self
    c.requires.covered c.in_ok-rows-in-Local.ensures.points c.in_ok-rows-in-Local.ensures.values c.new-in-Local.ensures e) c.set-in-Local.ensures.ok

pub returns-in_ok-rows-in-Local-clause-others : goal.returns-in_ok-rows-in-Local-clause-others
returns-in_ok-rows-in-Local-clause-others c =
    on_ok c.set-in-Local.result (λ e y n. ap (λ m. get m y) e ∙ get-other c.args.values.now c.args.x c.new-in-Local.result y n) c.set-in-Local.ensures.ok
