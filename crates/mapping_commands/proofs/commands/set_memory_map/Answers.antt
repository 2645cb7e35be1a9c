use Rattle.std.proofs.Common.{◌≡◌, rules, sym, subst}
use Rattle.std.specs.Prelude.{Some, Ok, Err}
use Rattle.az_ast.specs.System.{System}
use Rattle.session_state.specs.Session.{Session}
use Rattle.session_state.specs.Steps.{TakesAlone}
use Rattle.session_state.specs.declared.session.Loaded.{Loaded}
use Rattle.mapping_commands.specs.Commands.{set_memory_map}
use Rattle.mapping_commands.specs.Parts.{storage_set}
use Rattle.mapping_commands.proofs.Setting.{part_stops, part_left}
use Rattle.mapping_commands.proofs.commands.set_memory_map.Goals as goal

pub returns-in_err-mapping-clause-answer : goal.returns-in_err-mapping-clause-answer
returns-in_err-mapping-clause-answer c =
    let stop = c.in_err-mapping.field-0.0 in
    let handed : c.from_residual.result ≡ Err stop = search rules in
    let there : c.args.session.now ≡ Some c.in-Some.loaded = search rules in
    rw handed (subst (λ (s : Session). TakesAlone (set_memory_map s c.args.variable.now c.args.space.now c.args.map.now c.args.factors.now) (Err stop)) (sym there)
    (part_stops c.in-Some.loaded (λ (loaded : Loaded). storage_set loaded.current loaded.mapping c.args.variable.now c.args.space.now c.args.map.now c.args.factors.now) stop (subst (λ (p : System). TakesAlone (storage_set p c.in-Some.loaded.mapping c.args.variable.now c.args.space.now c.args.map.now c.args.factors.now) (Err stop)) c.program-program.ensures.value c.in_err-mapping.ensures.answer)))

pub returns-clause-answer : goal.returns-clause-answer
returns-clause-answer c =
    let m = c.in_ok-mapping.mapping in
    let there : c.args.session.now ≡ Some c.in-Some.loaded = search rules in
    subst (λ (s : Session). TakesAlone (set_memory_map s c.args.variable.now c.args.space.now c.args.map.now c.args.factors.now) (Ok (record { session = Some c.remap.new.loaded; text = c.new.result }))) (sym there)
    (part_left c.in-Some.loaded (λ (loaded : Loaded). storage_set loaded.current loaded.mapping c.args.variable.now c.args.space.now c.args.map.now c.args.factors.now) m c.remap.new.loaded c.new.result
    (subst (λ (p : System). TakesAlone (storage_set p c.in-Some.loaded.mapping c.args.variable.now c.args.space.now c.args.map.now c.args.factors.now) (Ok m)) c.program-program.ensures.value c.in_ok-mapping.ensures.answer)
    c.remap.ensures.value c.new.ensures)
