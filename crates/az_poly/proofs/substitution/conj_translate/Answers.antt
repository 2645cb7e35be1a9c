use Rattle.std.proofs.Common.{◌≡◌, ◌++◌, [], ◌∷◌, length, arith, rules, ap, sym, ◌∙◌, subst, All, Err}
use Rattle.std.proofs.lemmas.List.Elements.{All-push, All-same}
use Rattle.az_lin.specs.Affine.{Affine, HasEntries, HasWidth}
use Rattle.az_lin.specs.Substitution.{shifted}
use Rattle.az_lin.proofs.Mapped.{map-take-more, map-take-all, fits_at}
use Rattle.az_lin.specs.Affine.{HasEntryConj}
use Rattle.az_lin.specs.Answers.{IsExactly}
use Rattle.az_poly.specs.Operations.{conj_moved}
use Rattle.az_lin.proofs.Exactly.{handed_on}
use Rattle.az_lin.proofs.Lists.{polyhedron_is, All-map_same}
use Rattle.az_poly.proofs.substitution.conj_translate.Goals as goal

pub returns-in_err-shift : goal.returns-in_err-shift
returns-in_err-shift c =
    let row = c.row-item.result in
    let refusal : IsExactly HasEntries (shifted row c.args.v.now) (Err c.in_err-shift.field-0.0) = c.in_err-shift.ensures.exact in
    let handed : c.from_residual-in_err-shift.result ≡ Err c.in_err-shift.field-0.0 = search rules in
    subst (λ answer. IsExactly HasEntryConj (conj_moved c.args.v.now c.args.conj.now) answer) (sym handed)
    (handed_on HasEntries (shifted row c.args.v.now) HasEntryConj (conj_moved c.args.v.now c.args.conj.now) c.in_err-shift.field-0.0 refusal
    (fits_at HasEntries (λ r. shifted r c.args.v.now) c.rows-own.result.now c.args.conj.now.rows c.rows.row-index row c.rows-test.true c.row-item.is c.rows-own.ensures.value))

pub rows-preserved : goal.rows-preserved
rows-preserved c =
    let change : Affine → Affine = λ row. shifted row c.args.v.now in
    let got = c.in_ok-shift.field-0 in
    record {
      so_far = map-take-more change c.rows-own.result.now c.rows.row-index c.row-item.result got c.rows.rows.items c.push.new.self.items c.rows-test.true
          c.rows.invariant.so_far (c.in_ok-shift.ensures.exact.0 ∙ ap change c.row-item.is) c.in_ok-push.ensures.items;
      entries = All-same HasEntries c.push.new.self.items (c.rows.rows.items ++ got ∷ []) c.in_ok-push.ensures.items
          (All-push HasEntries c.rows.rows.items got c.rows.invariant.entries (subst HasEntries (sym c.in_ok-shift.ensures.exact.0) c.in_ok-shift.ensures.exact.1));
    }

pub new-requires : goal.new-requires
new-requires c =
    let full : c.rows.row-index ≡ length c.rows-own.result.now = omega arith in
    subst (λ width. All (HasWidth width) c.from_vec.result) (sym c.width.ensures)
    (All-same (HasWidth c.args.conj.now.width) c.from_vec.result (conj_moved c.args.v.now c.args.conj.now).rows
    (map-take-all (λ row. shifted row c.args.v.now) c.rows-own.result.now c.args.conj.now.rows c.rows.row-index c.from_vec.result
    (c.from_vec.ensures ∙ c.rows.invariant.so_far) full c.rows-own.ensures.value)
    ((All-map_same (HasWidth c.args.conj.now.width) (HasWidth c.args.conj.now.width) (λ row. shifted row c.args.v.now) c.args.conj.now.rows (λ row. (λ h. h, λ h. h))).1
    (All-same (HasWidth c.args.conj.now.width) c.args.conj.now.rows c.rows-own.result.now (sym c.rows-own.ensures.value) c.rows-own.ensures.widths)))

pub returns : goal.returns
returns c =
    let full : c.rows.row-index ≡ length c.rows-own.result.now = omega arith in
    let rows : c.rows.rows.items ≡ (conj_moved c.args.v.now c.args.conj.now).rows =
    map-take-all (λ row. shifted row c.args.v.now) c.rows-own.result.now c.args.conj.now.rows c.rows.row-index c.rows.rows.items
    c.rows.invariant.so_far full c.rows-own.ensures.value in (
      c.new.ensures ∙ polyhedron_is (conj_moved c.args.v.now c.args.conj.now) _ _ c.width.ensures (c.from_vec.ensures ∙ rows),
      All-same HasEntries (conj_moved c.args.v.now c.args.conj.now).rows c.rows.rows.items (sym rows) c.rows.invariant.entries,
    )
