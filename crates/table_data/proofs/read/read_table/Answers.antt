use Rattle.std.proofs.Common.{rules, ◌≡◌, ◌-◌, Result, Ok, Err, length, sym, subst, ap}
use Rattle.std.proofs.lemmas.Result.{err_from_is_err_and}
use Rattle.az_ast.specs.Tables.{Rows}
use Rattle.table_data.specs.Records.{records_of}
use Rattle.table_data.specs.Answers.{TableAnswers}
use Rattle.table_data.specs.Inner.Answers.{Fills, Completes}
use Rattle.table_data.specs.Inner.Filling.{Points, Values}
use Rattle.table_data.specs.declared.fault.TableFault.{TableFault}
use Rattle.loop_scan.specs.Members.{indices}
use Rattle.table_data.proofs.Answered.{scan-refused, filling-refused, answers, only_table, only_bad_row}
use Rattle.table_data.proofs.read.read_table.Goals as goal

pub returns-in_err-points : goal.returns-in_err-points
returns-in_err-points c =
    let p = err_from_is_err_and c.from_residual.result c.from_residual.ensures.1 in
    let d = c.args.d.now in
    let params = c.args.params.now in
    let text = c.args.text.now in
    let result = c.from_residual.result in
    let answer : TableAnswers d params text result = rw (p.1, p.2) (scan-refused d params text c.in_err-points.field-0.0 c.in_err-points.ensures.answer) in
    record { answer = answer; only = only_table d params text result answer; first = only_bad_row d params text result answer }

pub returns-in_err-values : goal.returns-in_err-values
returns-in_err-values c =
    let d = c.args.d.now in
    let params = c.args.params.now in
    let text = c.args.text.now in
    let points = c.in_ok-points.points in
    let result = c.from_residual-in_err-values.result in
    let handed : result ≡ Err c.in_err-values.field-0.0 = search rules in
    let width : c.width.result - length params ≡ indices d params = ap (λ n. n - length params) c.width.ensures in
    let refused = subst (λ n. Fills n points (records_of text) (Err c.in_err-values.field-0.0)) width
    (subst (λ (ps : Points). Fills (c.width.result - length params) ps (records_of text) (Err c.in_err-values.field-0.0)) c.as_slice.ensures c.in_err-values.ensures) in
    let answer : TableAnswers d params text result =
    subst (λ (r : Result Rows TableFault). TableAnswers d params text r) (sym handed) (filling-refused d params text points c.in_ok-points.ensures.answer c.in_err-values.field-0.0 refused) in
    record { answer = answer; only = only_table d params text result answer; first = only_bad_row d params text result answer }

pub returns : goal.returns
returns c =
    let d = c.args.d.now in
    let params = c.args.params.now in
    let text = c.args.text.now in
    let points = c.in_ok-points.points in
    let values = c.in_ok-values.values in
    let result = c.table_of.result in
    let width : c.width.result - length params ≡ indices d params = ap (λ n. n - length params) c.width.ensures in
    let fills = subst (λ n. Fills n points (records_of text) (Ok values)) width
    (subst (λ (ps : Points). Fills (c.width.result - length params) ps (records_of text) (Ok values)) c.as_slice.ensures c.in_ok-values.ensures) in
    let complete = subst (λ (vs : Values). Completes points vs result) c.as_slice-2.ensures c.table_of.ensures in
    let answer : TableAnswers d params text result = answers d params text points c.in_ok-points.ensures.answer values fills result complete in
    record { answer = answer; only = only_table d params text result answer; first = only_bad_row d params text result answer }
