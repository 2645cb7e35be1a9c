use Rattle.std.proofs.Common.{◌≡◌, List, sym, subst, ◌∙◌}
use Rattle.std.specs.Prelude.{ℤ, map}
use Rattle.az_ast.specs.Points.{IsIncreasing}
use Rattle.az_ast.specs.Tables.{Rows, IsTable}
use Rattle.equation_meaning_tests.specs.Inputs.{IsTableOver}
use Rattle.equation_meaning_tests.proofs.InputSteps.{table-over}
use Rattle.equation_meaning_tests.proofs.inputs.table_of.Goals as goal

pub returns : goal.returns
returns c =
    let v = c.args.variable.now in
    let params = c.args.params.now in
    let points : List (List ℤ) = c.in_ok-points.points in
    let rows : Rows = c.in_ok-rows.rows in
    let same : map (λ (row : List ℤ × ℤ). row.0) rows ≡ points = c.in_ok-rows.ensures ∙ c.as_slice.ensures in
    let table : IsTable rows = subst IsIncreasing (sym same) c.in_ok-points.ensures.ok.members.increasing in
    subst (λ (t : Rows). IsTableOver v params t) (sym c.new.ensures) (table-over v params points rows c.in_ok-points.ensures.ok same table)
