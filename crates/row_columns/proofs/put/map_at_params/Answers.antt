use Rattle.std.proofs.Common.{◌≡◌, ◌-◌, ◌∙◌, rules, ap, sym, subst, length, map, List, All, Err}
use Rattle.std.proofs.lemmas.List.Elements.{All-same}
use Rattle.az_lin.specs.Affine.{Affine, AffineMap, HasEntries, HasWidth, image_of}
use Rattle.az_lin.specs.Substitution.{HasEntryRows}
use Rattle.az_lin.specs.Answers.{IsExactly}
use Rattle.az_lin.specs.Columns.{at_params, map_at_params}
use Rattle.az_lin.proofs.Exactly.{handed_on}
use Rattle.az_lin.proofs.Substitution.{map_is}
use Rattle.az_lin.proofs.Columns.{image_of-at_params}
use Rattle.row_columns.proofs.Made.{widths_at_params}
use Rattle.row_columns.proofs.put.map_at_params.Goals as goal

pub returns-in_err-rows-clause-exact : goal.returns-in_err-rows-clause-exact
returns-in_err-rows-clause-exact c =
    let wanted = map (λ row. at_params c.args.params.now row) c.args.f.now.rows in
    let refusal : IsExactly (All HasEntries) wanted (Err c.in_err-rows.field-0.0) =
    subst (λ (rows : List Affine). IsExactly (All HasEntries) (map (λ row. at_params c.args.params.now row) rows) (Err c.in_err-rows.field-0.0)) c.rows.ensures.value c.in_err-rows.ensures in
    let handed : c.from_residual.result ≡ Err c.in_err-rows.field-0.0 = search rules in
    subst (λ answer. IsExactly HasEntryRows (map_at_params c.args.params.now c.args.f.now) answer) (sym handed)
    (handed_on (All HasEntries) wanted HasEntryRows (map_at_params c.args.params.now c.args.f.now) c.in_err-rows.field-0.0 refusal (λ all. all))

pub new-requires : goal.new-requires
new-requires c =
    subst (λ width. All (HasWidth (width - length c.args.params.now)) c.in_ok-rows.rows) (sym c.width-width.ensures.value)
    (All-same (HasWidth (c.args.f.now.width - length c.args.params.now)) c.in_ok-rows.rows (map (λ row. at_params c.args.params.now row) c.rows.result.now) c.in_ok-rows.ensures.0
    (widths_at_params c.args.params.now c.args.f.now.width c.rows.result.now c.rows.ensures.widths))

is : (c : goal.After-new) → c.new.result ≡ map_at_params c.args.params.now c.args.f.now
is c =
    c.new.ensures
    ∙ map_is (map_at_params c.args.params.now c.args.f.now) _ _ (ap (λ n. n - length c.args.params.now) c.width-width.ensures.value)
    (c.in_ok-rows.ensures.0 ∙ ap (map (λ row. at_params c.args.params.now row)) c.rows.ensures.value)

pub returns-clause-exact : goal.returns-clause-exact
returns-clause-exact c = (
  is c,
  subst (λ (rows : List Affine). All HasEntries (map (λ row. at_params c.args.params.now row) rows)) c.rows.ensures.value c.in_ok-rows.ensures.1,
)

pub returns-clause-meaning : goal.returns-clause-meaning
returns-clause-meaning c = λ z. ap (λ (f : AffineMap). image_of f z) (is c) ∙ image_of-at_params c.args.params.now c.args.f.now z
