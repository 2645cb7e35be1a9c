use Rattle.std.proofs.Common.{◌≡◌, ◌-◌, ◌++◌, ◌∙◌, ◌↔◌, rules, ap, sym, subst, length, map, List, All, Err}
use Rattle.std.proofs.lemmas.List.Elements.{All-same}
use Rattle.az_lin.specs.Affine.{Affine, Polyhedron, HasEntries, HasWidth, HasEntryConj, Holds}
use Rattle.az_lin.specs.Answers.{IsExactly}
use Rattle.az_lin.specs.Columns.{at_params, conj_at_params}
use Rattle.az_lin.proofs.Exactly.{handed_on}
use Rattle.az_lin.proofs.Lists.{polyhedron_is}
use Rattle.az_lin.proofs.HeldPoints.{conj_at_params_holds}
use Rattle.row_columns.proofs.Made.{widths_at_params}
use Rattle.row_columns.proofs.put.conj_at_params.Goals as goal

pub returns-in_err-rows-clause-exact : goal.returns-in_err-rows-clause-exact
returns-in_err-rows-clause-exact c =
    let wanted = map (λ row. at_params c.args.params.now row) c.args.conj.now.rows in
    let refusal : IsExactly (All HasEntries) wanted (Err c.in_err-rows.field-0.0) =
    subst (λ (rows : List Affine). IsExactly (All HasEntries) (map (λ row. at_params c.args.params.now row) rows) (Err c.in_err-rows.field-0.0)) c.rows.ensures.value c.in_err-rows.ensures in
    let handed : c.from_residual.result ≡ Err c.in_err-rows.field-0.0 = search rules in
    subst (λ answer. IsExactly HasEntryConj (conj_at_params c.args.params.now c.args.conj.now) answer) (sym handed)
    (handed_on (All HasEntries) wanted HasEntryConj (conj_at_params c.args.params.now c.args.conj.now) c.in_err-rows.field-0.0 refusal (λ all. all))

pub new-requires : goal.new-requires
new-requires c =
    subst (λ width. All (HasWidth (width - length c.args.params.now)) c.in_ok-rows.rows) (sym c.width-width.ensures)
    (All-same (HasWidth (c.args.conj.now.width - length c.args.params.now)) c.in_ok-rows.rows (map (λ row. at_params c.args.params.now row) c.rows.result.now) c.in_ok-rows.ensures.0
    (widths_at_params c.args.params.now c.args.conj.now.width c.rows.result.now c.rows.ensures.widths))

is : (c : goal.After-new) → c.new.result ≡ conj_at_params c.args.params.now c.args.conj.now
is c =
    c.new.ensures
    ∙ polyhedron_is (conj_at_params c.args.params.now c.args.conj.now) _ _ (ap (λ n. n - length c.args.params.now) c.width-width.ensures)
    (c.in_ok-rows.ensures.0 ∙ ap (map (λ row. at_params c.args.params.now row)) c.rows.ensures.value)

pub returns-clause-exact : goal.returns-clause-exact
returns-clause-exact c = (
  is c,
  subst (λ (rows : List Affine). All HasEntries (map (λ row. at_params c.args.params.now row) rows)) c.rows.ensures.value c.in_ok-rows.ensures.1,
)

pub returns-clause-meaning : goal.returns-clause-meaning
returns-clause-meaning c = λ z. subst (λ (put : Polyhedron). Holds put z ↔ Holds c.args.conj.now (c.args.params.now ++ z)) (sym (is c)) (conj_at_params_holds c.args.params.now c.args.conj.now z)
