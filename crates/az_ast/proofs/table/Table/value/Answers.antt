use Rattle.std.proofs.Common.{rules, sym, subst, ◌≡◌, ◌∙◌}
use Rattle.std.specs.Prelude.{ℤ, slice_index_or, FitsSigned}
use Rattle.std.proofs.lemmas.Int.{to_z-of_z}
use Rattle.std.specs.Int.{w64, cast_signed, cast_unsigned}
use Rattle.az_ast.specs.Tables.{IsTable, TableGives}
use Rattle.az_ast.proofs.TableLemmas.{TableGives-at, TableGives-not_found, place-rises}
use Rattle.az_ast.proofs.table.Table.value.Goals as goal

pub returns-in-Ok : goal.returns-in-Ok
returns-in-Ok c =
    let same : c.as_slice-rows.result.now ≡ c.args.self.now = c.as_slice-rows.ensures ∙ c.self.view_is in
    let table : IsTable c.as_slice-rows.result.now = subst IsTable (sym c.as_slice-rows.ensures) c.self.invariant in
    let gives : TableGives c.as_slice-rows.result.now c.args.point.now (slice_index_or c.as_slice-rows.result.now c.in-Ok.place c.index-rows-place.result).1
    = TableGives-at c.args.point.now c.as_slice-rows.result.now table c.in-Ok.place c.index-rows-place.result c.in-Ok.ensures.bound (c.in-Ok.ensures.place c.index-rows-place.result) in
    let v : ℤ = (slice_index_or c.as_slice-rows.result.now c.in-Ok.place c.index-rows-place.result).1 in
    let fits : FitsSigned w64 v = search rules in
    let word : cast_signed w64 (cast_unsigned w64 v) ≡ v = to_z-of_z w64 v fits in
    let here : TableGives c.args.self.now c.args.point.now v = subst (λ rows. TableGives rows c.args.point.now v) same gives in
    subst (λ w. TableGives c.args.self.now c.args.point.now w) (sym word) here

pub returns-in-Err : goal.returns-in-Err
returns-in-Err c =
    let same : c.as_slice-rows.result.now ≡ c.args.self.now = c.as_slice-rows.ensures ∙ c.self.view_is in
    let table : IsTable c.as_slice-rows.result.now = subst IsTable (sym c.as_slice-rows.ensures) c.self.invariant in
    λ v g. TableGives-not_found c.args.point.now c.as_slice-rows.result.now c.in-Err.field-0 table
    (c.in-Err.ensures.place (place-rises c.args.point.now c.as_slice-rows.result.now table)) v (subst (λ rows. TableGives rows c.args.point.now v) (sym same) g)
