use Rattle.std.proofs.Common.{◌≡◌, ◌++◌, [], ◌∷◌, length, map, arith, rules, refl, ap, sym, ◌∙◌, subst, All, Err}
use Rattle.std.proofs.lemmas.List.Elements.{All-push, All-same}
use Rattle.az_lin.specs.Affine.{Affine, HasEntries}
use Rattle.az_lin.specs.Answers.{IsExactly}
use Rattle.az_lin.specs.Columns.{at_params}
use Rattle.az_lin.proofs.Exactly.{handed_on}
use Rattle.az_lin.proofs.Mapped.{map-take-more, map-take-all, fits_at}
use Rattle.row_columns.proofs.put.rows_at_params.Goals as goal

pub returns-in_err-row_at_params : goal.returns-in_err-row_at_params
returns-in_err-row_at_params c =
    let change : Affine → Affine = λ row. at_params c.args.params.now row in
    let row = c.row-item.result in
    let refusal : IsExactly HasEntries (change row) (Err c.in_err-row_at_params.field-0.0) = c.in_err-row_at_params.ensures.exact in
    let handed : c.from_residual-in_err-row_at_params.result ≡ Err c.in_err-row_at_params.field-0.0 = search rules in
    subst (λ answer. IsExactly (All HasEntries) (map change c.args.rows.now) answer) (sym handed)
    (handed_on HasEntries (change row) (All HasEntries) (map change c.args.rows.now) c.in_err-row_at_params.field-0.0
    refusal (fits_at HasEntries change c.args.rows.now c.args.rows.now c.rows.row-index row c.rows-test.true c.row-item.is refl))

pub rows-preserved : goal.rows-preserved
rows-preserved c =
    let change : Affine → Affine = λ row. at_params c.args.params.now row in
    let got = c.in_ok-row_at_params.field-0 in
    record {
      so_far = map-take-more change c.args.rows.now c.rows.row-index c.row-item.result got c.rows.put.items c.push.new.self.items c.rows-test.true
          c.rows.invariant.so_far (c.in_ok-row_at_params.ensures.exact.0 ∙ ap change c.row-item.is) c.in_ok-push.ensures.items;
      entries = All-same HasEntries c.push.new.self.items (c.rows.put.items ++ got ∷ []) c.in_ok-push.ensures.items
          (All-push HasEntries c.rows.put.items got c.rows.invariant.entries (subst HasEntries (sym c.in_ok-row_at_params.ensures.exact.0) c.in_ok-row_at_params.ensures.exact.1));
    }

pub returns : goal.returns
returns c =
    let change : Affine → Affine = λ row. at_params c.args.params.now row in
    let full : c.rows.row-index ≡ length c.args.rows.now = omega arith in
    let rows : c.rows.put.items ≡ map change c.args.rows.now =
    map-take-all change c.args.rows.now c.args.rows.now c.rows.row-index c.rows.put.items c.rows.invariant.so_far full refl in (
      c.from_vec.ensures ∙ rows,
      All-same HasEntries (map change c.args.rows.now) c.rows.put.items (sym rows) c.rows.invariant.entries,
    )
