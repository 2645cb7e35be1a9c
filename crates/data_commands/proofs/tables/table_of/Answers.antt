use Rattle.std.proofs.Common.{List, ℤ, ◌<◌, length, sym, subst}
use Rattle.az_lin.specs.Affine.{Union}
use Rattle.az_ast.specs.declared.program.Variable.{Variable}
use Rattle.session_state.proofs.Taking.{goes_on}
use Rattle.session_state.specs.Steps.{TakesAlone}
use Rattle.data_commands.specs.Parameters.{params}
use Rattle.data_commands.specs.Tables.{domain_at, table_in}
use Rattle.data_commands.proofs.Domains.{domain_here}
use Rattle.data_commands.proofs.tables.table_of.Goals as goal

pub returns : goal.returns
returns c =
    let p = c.args.program.now in
    let name = c.args.input.now in
    let text = c.args.text.now in
    let x = c.args.number in
    let variable = c.index-variables-number.result in
    let values = c.in_ok-values.values in
    let within = subst (λ (vs : List Variable). x < length vs) (sym c.variables.ensures.value) c.requires.there in
    let domain = domain_here p x c.variables.result.now variable c.variables.ensures.value within c.index-variables-number.is in
    goes_on (λ call. ⊥) (params p c.args.settings.now) (λ zs. table_in name (domain_at p x) zs text) values c.table_in.result c.in_ok-values.ensures.answer
    (subst (λ (d : Union). TakesAlone (table_in name d values text) c.table_in.result) (sym domain)
    (subst (λ (zs : List ℤ). TakesAlone (table_in name variable.domain zs text) c.table_in.result) c.as_slice.ensures c.table_in.ensures))
