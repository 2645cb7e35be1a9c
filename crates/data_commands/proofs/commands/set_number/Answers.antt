use Rattle.std.proofs.Common.{◌≡◌, List, ℕ, ℤ, rules, sym, subst, FitsSigned}
use Rattle.std.specs.Int.{w128}
use Rattle.std.proofs.lemmas.Int.{to_z-of_z}
use Rattle.std.specs.FinMap.{empty}
use Rattle.std.specs.Prelude.{Some, Ok, Err}
use Rattle.az_ast.specs.System.{System}
use Rattle.az_ast.specs.Tables.{Tables}
use Rattle.session_state.specs.Session.{Session}
use Rattle.session_state.specs.Settings.{Settings, set_parameter}
use Rattle.session_state.specs.Steps.{TakesAlone}
use Rattle.data_commands.specs.Commands.{set_number}
use Rattle.data_commands.proofs.Opened.{number_stops, number_set}
use Rattle.data_commands.proofs.commands.set_number.Goals as goal

pub returns-in_err-settings-clause-answer : goal.returns-in_err-settings-clause-answer
returns-in_err-settings-clause-answer c =
    let stop = c.in_err-settings.field-0.0 in
    let name = c.args.name.now in
    let number = c.args.number in
    let fits : FitsSigned w128 number = search rules in
    let handed : c.from_residual.result ≡ Err stop = search rules in
    let there : c.args.session.now ≡ Some c.in-Some.loaded = search rules in
    rw handed (subst (λ (s : Session). TakesAlone (set_number s name number) (Err stop)) (sym there)
    (number_stops c.in-Some.loaded name number stop
    (subst (λ (p : System). TakesAlone (set_parameter p c.in-Some.loaded.settings name number) (Err stop)) c.program.ensures.value
    (subst (λ (s : Settings). TakesAlone (set_parameter c.program.result.now s name number) (Err stop)) c.as_slice.ensures
    (subst (λ (z : ℤ). TakesAlone (set_parameter c.program.result.now c.as_slice.result.now name z) (Err stop)) (to_z-of_z w128 number fits) c.in_err-settings.ensures.answer)))))

pub returns-clause-answer : goal.returns-clause-answer
returns-clause-answer c =
    let name = c.args.name.now in
    let number = c.args.number in
    let fits : FitsSigned w128 number = search rules in
    let loaded = c.in-Some.loaded in
    let settings = c.in_ok-settings.settings in
    let there : c.args.session.now ≡ Some loaded = search rules in
    subst (λ (s : Session). TakesAlone (set_number s name number) (Ok (record { session = Some (record loaded { settings = settings; inputs = c.new.result }); text = c.new-2.result }))) (sym there)
    (subst (λ (tables : Tables). TakesAlone (set_number (Some loaded) name number) (Ok (record { session = Some (record loaded { settings = settings; inputs = tables }); text = c.new-2.result }))) (sym c.new.ensures)
    (subst (λ (text : List ℕ). TakesAlone (set_number (Some loaded) name number) (Ok (record { session = Some (record loaded { settings = settings; inputs = empty }); text = text }))) (sym c.new-2.ensures)
    (number_set loaded name number settings
    (subst (λ (p : System). TakesAlone (set_parameter p loaded.settings name number) (Ok settings)) c.program.ensures.value
    (subst (λ (s : Settings). TakesAlone (set_parameter c.program.result.now s name number) (Ok settings)) c.as_slice.ensures
    (subst (λ (z : ℤ). TakesAlone (set_parameter c.program.result.now c.as_slice.result.now name z) (Ok settings)) (to_z-of_z w128 number fits) c.in_ok-settings.ensures.answer))))))
