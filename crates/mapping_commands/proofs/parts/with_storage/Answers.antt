use Rattle.std.proofs.Common.{◌≡◌, List, ℕ, rules, sym, subst, ◌∙◌, None}
use Rattle.std.specs.Prelude.{false, map, Err}
use Rattle.session_state.specs.Steps.{TakesAlone}
use Rattle.session_state.specs.declared.stop.Stop.{Stop}
use Rattle.target_map.specs.Refusals.{IsRefusal, storage_refusal}
use Rattle.target_map.specs.Settings.{storage_in}
use Rattle.mapping_commands.specs.Numbers.{within}
use Rattle.mapping_commands.specs.Parts.{storage_set}
use Rattle.mapping_commands.specs.Shapes.{IsMeant}
use Rattle.mapping_commands.proofs.Stored.{stored_out, stored_stops}
use Rattle.mapping_commands.proofs.parts.with_storage.Goals as goal

pub returns-in-Ok-2-clause-answer : goal.returns-in-Ok-2-clause-answer
returns-in-Ok-2-clause-answer c =
    let p = c.args.program.now in
    let m = c.args.mapping.now in
    let x = c.in_ok-variable.variable in
    let shaped = c.in_ok-meant.meant in
    let is : IsMeant p.params c.args.map.now shaped = subst (λ (names : List (List ℕ)). IsMeant names c.args.map.now shaped) c.params.ensures c.in_ok-meant.ensures.ok in
    let factors : c.as_slice.result.now ≡ map within c.args.factors.now = c.as_slice.ensures.value ∙ c.in_ok-factors.ensures in
    let none : storage_refusal p m x (storage_in c.args.space.now shaped.map (map within c.args.factors.now)) ≡ None = rw (sym c.in_ok-mapping.ensures.ok, sym c.in_ok-space.ensures.ok, sym factors) c.in-Ok-2.ensures.ok.0 in
    let out : shaped.fits ≡ false = search rules in
    subst (λ (stop : Stop). TakesAlone (storage_set p m c.args.variable.now c.args.space.now c.args.map.now c.args.factors.now) (Err stop)) (sym c.refused.ensures)
    (stored_out p m c.args.variable.now c.args.space.now c.args.map.now c.args.factors.now x c.in_ok-variable.ensures.answer shaped is out none)

pub returns-clause-answer : goal.returns-clause-answer
returns-clause-answer c =
    let p = c.args.program.now in
    let m = c.args.mapping.now in
    let x = c.in_ok-variable.variable in
    let shaped = c.in_ok-meant.meant in
    let is : IsMeant p.params c.args.map.now shaped = subst (λ (names : List (List ℕ)). IsMeant names c.args.map.now shaped) c.params.ensures c.in_ok-meant.ensures.ok in
    let factors : c.as_slice.result.now ≡ map within c.args.factors.now = c.as_slice.ensures.value ∙ c.in_ok-factors.ensures in
    let why = c.in-Err.fault in
    let refuses : IsRefusal (storage_refusal p m x (storage_in c.args.space.now shaped.map (map within c.args.factors.now))) why = rw (sym c.in_ok-mapping.ensures.ok, sym c.in_ok-space.ensures.ok, sym factors) c.in-Err.ensures.cause in
    subst (λ (stop : Stop). TakesAlone (storage_set p m c.args.variable.now c.args.space.now c.args.map.now c.args.factors.now) (Err stop)) (sym c.stop_of.ensures)
    (stored_stops p m c.args.variable.now c.args.space.now c.args.map.now c.args.factors.now x c.in_ok-variable.ensures.answer shaped is why refuses)
