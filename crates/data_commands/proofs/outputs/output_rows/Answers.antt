use Rattle.std.proofs.Common.{◌≡◌, List, ℤ, length, rules, sym, subst, ap, ◌∙◌}
use Rattle.std.specs.Prelude.{Ok, Err}
use Rattle.az_ast.specs.System.{System}
use Rattle.session_state.proofs.Taking.{stops_first}
use Rattle.session_state.specs.Steps.{◌>>=◌, TakesAlone}
use Rattle.value_walk.specs.Meanings.{HaveInputs}
use Rattle.data_commands.specs.Outputs.{untabled, every_table, evaluated}
use Rattle.data_commands.specs.Parameters.{params}
use Rattle.data_commands.proofs.Given.{have_inputs, every_is}
use Rattle.data_commands.proofs.outputs.output_rows.Goals as goal

pub returns-in_err-values : goal.returns-in_err-values
returns-in_err-values c =
    let p = c.args.checked.now in
    let settings = c.args.settings.now in
    let tables = c.args.inputs.now in
    let stop = c.in_err-values.field-0.0 in
    let handed : c.from_residual.result ≡ Err stop = search rules in
    rw handed (stops_first (λ call. ⊥) (params p settings) (λ values. every_table p tables >>= (λ every. evaluated p tables values)) stop
    (subst (λ (q : System). TakesAlone (params q settings) (Err stop)) c.program-program.ensures.value c.in_err-values.ensures.answer))

pub evaluated-requires-clause-inputs : goal.evaluated-requires-clause-inputs
evaluated-requires-clause-inputs c =
    let p = c.args.checked.now in
    let same = c.program-program.ensures.value in
    let settings = c.args.settings.now in
    let tables = c.args.inputs.now in
    let values = c.in_ok-values.values in
    let long = c.in_ok-values.ensures.count ∙ ap (λ (q : System). length q.params) same in
    let set = subst (λ (q : System). params q settings (Ok values)) same c.in_ok-values.ensures.answer in
    let every = subst (λ (q : System). every_table q tables (Ok tt)) same c.in_ok-every_table.ensures in
    subst (λ (zs : List ℤ). HaveInputs p tables zs) (sym c.as_slice.ensures)
    (have_inputs p settings tables values long set c.requires.read (every_is (untabled tables p.variables 0) every))
