use Rattle.std.proofs.Common.{◌≡◌, rules, sym, subst}
use Rattle.std.specs.Prelude.{Some, Ok, Err}
use Rattle.session_state.specs.Session.{Session, IsSound}
use Rattle.session_state.specs.Steps.{TakesAlone}
use Rattle.session_state.specs.declared.session.Loaded.{Loaded}
use Rattle.mapping_commands.specs.Commands.{set_dimension_kinds}
use Rattle.mapping_commands.specs.Parts.{kinds_set}
use Rattle.mapping_commands.proofs.Setting.{part_stops, part_left}
use Rattle.mapping_commands.proofs.commands.set_dimension_kinds.Goals as goal

pub returns-in_err-mapping-clause-answer : goal.returns-in_err-mapping-clause-answer
returns-in_err-mapping-clause-answer c =
    let stop = c.in_err-mapping.field-0.0 in
    let handed : c.from_residual.result ≡ Err stop = search rules in
    let there : c.args.session.now ≡ Some c.in-Some.loaded = search rules in
    rw handed (subst (λ (s : Session). TakesAlone (set_dimension_kinds s c.args.kinds.now) (Err stop)) (sym there)
    (part_stops c.in-Some.loaded (λ (loaded : Loaded). kinds_set loaded.mapping c.args.kinds.now) stop c.in_err-mapping.ensures.answer))

pub returns-clause-answer : goal.returns-clause-answer
returns-clause-answer c =
    let m = c.in_ok-mapping.mapping in
    let there : c.args.session.now ≡ Some c.in-Some.loaded = search rules in
    subst (λ (s : Session). TakesAlone (set_dimension_kinds s c.args.kinds.now) (Ok (record { session = Some c.remap.new.loaded; text = c.new.result }))) (sym there)
    (part_left c.in-Some.loaded (λ (loaded : Loaded). kinds_set loaded.mapping c.args.kinds.now) m c.remap.new.loaded c.new.result
    c.in_ok-mapping.ensures.answer
    c.remap.ensures.value c.new.ensures)

pub returns-clause-sound : goal.returns-clause-sound
returns-clause-sound c =
    let there : c.args.session.now ≡ Some c.in-Some.loaded = search rules in
    let sound : IsSound (Some c.in-Some.loaded) = subst IsSound there c.requires.sound in
    c.remap.ensures.sound (c.in_ok-mapping.ensures.fits c.in-Some.loaded.current sound.mapping) sound
