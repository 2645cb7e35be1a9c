use Rattle.std.proofs.Common.{◌≡◌, ◌++◌, [], ◌∷◌, length, arith, rules, ap, sym, ◌∙◌, subst, All, Err}
use Rattle.std.proofs.lemmas.List.Elements.{All-push, All-same}
use Rattle.az_lin.specs.Affine.{Affine, AffineMap, HasEntries, HasWidth, image_of}
use Rattle.az_lin.specs.Answers.{IsExactly}
use Rattle.az_lin.specs.Substitution.{composed, composed_map, HasEntryRows}
use Rattle.az_lin.proofs.Exactly.{handed_on}
use Rattle.az_lin.proofs.Mapped.{map-take-more, map-take-all, fits_at}
use Rattle.az_lin.proofs.Substitution.{widths_composed, image_of-composed, map_is}
use Rattle.az_lin.proofs.map.Map.compose.Goals as goal

pub returns-in_err-compose-clause-exact : goal.returns-in_err-compose-clause-exact
returns-in_err-compose-clause-exact c =
    let row = c.row-item.result in
    let refusal : IsExactly HasEntries (composed row c.args.f.now) (Err c.in_err-compose.field-0.0) = c.in_err-compose.ensures.exact in
    let handed : c.from_residual-in_err-compose.result ≡ Err c.in_err-compose.field-0.0 = search rules in
    subst (λ answer. IsExactly HasEntryRows (composed_map c.args.self.now c.args.f.now) answer) (sym handed)
    (handed_on HasEntries (composed row c.args.f.now) HasEntryRows (composed_map c.args.self.now c.args.f.now) c.in_err-compose.field-0.0
    refusal (fits_at HasEntries (λ r. composed r c.args.f.now) c.rows-own.result.now c.args.self.now.rows c.rows.row-index row c.rows-test.true c.row-item.is c.rows-own.ensures.value))

pub rows-preserved : goal.rows-preserved
rows-preserved c =
    let then_f : Affine → Affine = λ row. composed row c.args.f.now in
    let row = c.row-item.result in
    let i = c.rows.row-index in
    let own = c.rows-own.result.now in
    let got = c.in_ok-compose.field-0 in
    record {
      so_far = map-take-more then_f own i row got c.rows.rows.items c.push.new.self.items c.rows-test.true c.rows.invariant.so_far
          (c.in_ok-compose.ensures.exact.0 ∙ ap then_f c.row-item.is) c.in_ok-push.ensures.items;
      entries = All-same HasEntries c.push.new.self.items (c.rows.rows.items ++ got ∷ []) c.in_ok-push.ensures.items
          (All-push HasEntries c.rows.rows.items got c.rows.invariant.entries (subst HasEntries (sym c.in_ok-compose.ensures.exact.0) c.in_ok-compose.ensures.exact.1));
    }

pub new-requires : goal.new-requires
new-requires c =
    let full : c.rows.row-index ≡ length c.rows-own.result.now = omega arith in
    subst (λ width. All (HasWidth width) c.from_vec.result) (sym (ap (λ (f : AffineMap). f.width) c.f.view_is))
    (All-same (HasWidth c.args.f.now.width) c.from_vec.result (composed_map c.args.self.now c.args.f.now).rows (map-take-all (λ row. composed row c.args.f.now) c.rows-own.result.now c.args.self.now.rows c.rows.row-index c.from_vec.result (c.from_vec.ensures ∙ c.rows.invariant.so_far) full c.rows-own.ensures.value)
    (widths_composed c.args.self.now.rows c.args.f.now))

result : (c : goal.After-new) → c.new.result ≡ composed_map c.args.self.now c.args.f.now
result c =
    let full : c.rows.row-index ≡ length c.rows-own.result.now = omega arith in
    c.new.ensures
    ∙ map_is (composed_map c.args.self.now c.args.f.now) _ _ (ap (λ (f : AffineMap). f.width) c.f.view_is)
    (map-take-all (λ row. composed row c.args.f.now) c.rows-own.result.now c.args.self.now.rows c.rows.row-index c.from_vec.result (c.from_vec.ensures ∙ c.rows.invariant.so_far) full c.rows-own.ensures.value)

pub returns-clause-exact : goal.returns-clause-exact
returns-clause-exact c =
    let full : c.rows.row-index ≡ length c.rows-own.result.now = omega arith in (
      result c,
      All-same HasEntries (composed_map c.args.self.now c.args.f.now).rows c.rows.rows.items
          (sym (map-take-all (λ row. composed row c.args.f.now) c.rows-own.result.now c.args.self.now.rows c.rows.row-index c.rows.rows.items c.rows.invariant.so_far full c.rows-own.ensures.value)) c.rows.invariant.entries,
    )

pub returns-clause-meaning : goal.returns-clause-meaning
returns-clause-meaning c = λ z.
    ap (λ (f : AffineMap). image_of f z) (result c)
    ∙ image_of-composed c.args.self.now c.args.f.now z (subst (λ (f : AffineMap). All (HasWidth f.width) f.rows) c.f.view_is c.f.invariant.0)
