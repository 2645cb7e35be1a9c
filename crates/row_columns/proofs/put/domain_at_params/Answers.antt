use Rattle.std.proofs.Common.{◌≡◌, ◌-◌, ◌++◌, [], ◌∷◌, length, map, arith, rules, ap, sym, ◌∙◌, subst, All, Err, IfOk, ◌↔◌, refl}
use Rattle.std.proofs.lemmas.List.Elements.{All-push, All-same}
use Rattle.az_lin.specs.Affine.{Polyhedron, Union, IsOver, HoldsSome, HasEntryConj, HasEntryDomain}
use Rattle.az_lin.specs.Answers.{IsExactly}
use Rattle.az_lin.specs.Columns.{conj_at_params, domain_at_params}
use Rattle.az_lin.proofs.Mapped.{map-take-more, map-take-all, fits_at}
use Rattle.az_lin.proofs.Exactly.{handed_on, ok_law}
use Rattle.az_lin.proofs.Lists.{union_is}
use Rattle.az_lin.proofs.HeldPoints.{domain_at_params_holds}
use Rattle.row_columns.proofs.Made.{over_at_params}
use Rattle.row_columns.proofs.put.domain_at_params.Goals as goal

pub returns-in_err-conj_at_params-clause-exact : goal.returns-in_err-conj_at_params-clause-exact
returns-in_err-conj_at_params-clause-exact c =
    let change : Polyhedron → Polyhedron = λ conj. conj_at_params c.args.params.now conj in
    let wanted = domain_at_params c.args.params.now c.args.d.now in
    let handed : c.from_residual-in_err-conj_at_params.result ≡ Err c.in_err-conj_at_params.field-0.0 = search rules in
    subst (λ answer. IsExactly HasEntryDomain wanted answer) (sym handed)
    (handed_on HasEntryConj (change c.conj-item.result) HasEntryDomain wanted c.in_err-conj_at_params.field-0.0 c.in_err-conj_at_params.ensures.exact
    (fits_at HasEntryConj change c.disjuncts-own.result.now c.args.d.now.disjuncts c.conjs.conj-index c.conj-item.result
    c.conjs-test.true c.conj-item.is c.disjuncts-own.ensures.value))

pub conjs-preserved : goal.conjs-preserved
conjs-preserved c =
    let change : Polyhedron → Polyhedron = λ conj. conj_at_params c.args.params.now conj in
    let got = c.in_ok-conj_at_params.field-0 in
    record {
      so_far = map-take-more change c.disjuncts-own.result.now c.conjs.conj-index c.conj-item.result got c.conjs.disjuncts.items c.push.new.self.items
          c.conjs-test.true c.conjs.invariant.so_far (c.in_ok-conj_at_params.ensures.exact.0 ∙ ap change c.conj-item.is) c.in_ok-push.ensures.items;
      entries = All-same HasEntryConj c.push.new.self.items (c.conjs.disjuncts.items ++ got ∷ []) c.in_ok-push.ensures.items
          (All-push HasEntryConj c.conjs.disjuncts.items got c.conjs.invariant.entries
          (subst HasEntryConj (sym c.in_ok-conj_at_params.ensures.exact.0) c.in_ok-conj_at_params.ensures.exact.1));
    }

pub of_list-requires-clause-widths : goal.of_list-requires-clause-widths
of_list-requires-clause-widths c =
    let change : Polyhedron → Polyhedron = λ conj. conj_at_params c.args.params.now conj in
    let k = length c.args.params.now in
    let full : c.conjs.conj-index ≡ length c.disjuncts-own.result.now = omega arith in
    let all : c.from_vec.result ≡ map change c.disjuncts-own.result.now =
    map-take-all change c.disjuncts-own.result.now c.disjuncts-own.result.now c.conjs.conj-index c.from_vec.result (c.from_vec.ensures ∙ c.conjs.invariant.so_far) full refl in
    subst (λ width. All (IsOver (width - k)) c.from_vec.result) (sym c.width.ensures)
    (All-same (IsOver (c.args.d.now.width - k)) c.from_vec.result (map change c.disjuncts-own.result.now) all
    (over_at_params c.args.params.now c.args.d.now.width c.disjuncts-own.result.now c.disjuncts-own.ensures.widths))

pub returns-clause-meaning : goal.returns-clause-meaning
returns-clause-meaning c = λ z.
    let wanted = domain_at_params c.args.params.now c.args.d.now in
    let full : c.conjs.conj-index ≡ length c.disjuncts-own.result.now = omega arith in
    let same : record { width = c.width.result - length c.args.params.now; disjuncts = c.from_vec.result } ≡ wanted =
    union_is wanted _ _ (ap (λ n. n - length c.args.params.now) c.width.ensures)
    (map-take-all (λ conj. conj_at_params c.args.params.now conj) c.disjuncts-own.result.now c.args.d.now.disjuncts c.conjs.conj-index c.from_vec.result
    (c.from_vec.ensures ∙ c.conjs.invariant.so_far) full c.disjuncts-own.ensures.value) in
    ok_law wanted (λ put. HoldsSome put z ↔ HoldsSome c.args.d.now (c.args.params.now ++ z)) c.of_list.result
    (subst (λ (value : Union). IfOk c.of_list.result (λ put. put ≡ value)) same c.of_list.ensures.ok)
    (domain_at_params_holds c.args.params.now c.args.d.now z)
