use Rattle.std.proofs.Common.{◌≡◌, ◌<◌, ◌++◌, [], ◌∷◌, length, map, arith, rules, ap, sym, ◌∙◌, subst, All, Err, IfOk, ◌↔◌}
use Rattle.std.proofs.lemmas.List.{length-map}
use Rattle.std.proofs.lemmas.List.Elements.{All-push, All-same, All-map}
use Rattle.az_lin.specs.Affine.{Polyhedron, Union, IsOver, HoldsSome}
use Rattle.az_lin.specs.Substitution.{less}
use Rattle.az_lin.proofs.Mapped.{map-take-more, map-take-all, fits_at}
use Rattle.az_lin.specs.Affine.{HasEntryConj, HasEntryDomain}
use Rattle.az_lin.specs.Answers.{IsExactly}
use Rattle.az_poly.specs.Operations.{conj_moved, domain_moved}
use Rattle.az_lin.proofs.Exactly.{handed_on, ok_law}
use Rattle.az_lin.proofs.Lists.{union_is}
use Rattle.az_poly.proofs.Held.{moved_holds}
use Rattle.az_poly.proofs.substitution.domain_translate.Goals as goal

pub returns-in_err-conj_translate-clause-exact : goal.returns-in_err-conj_translate-clause-exact
returns-in_err-conj_translate-clause-exact c =
    let handed : c.from_residual-in_err-conj_translate.result ≡ Err c.in_err-conj_translate.field-0.0 = search rules in
    subst (λ answer. IsExactly HasEntryDomain (domain_moved c.args.v.now c.args.d.now) answer) (sym handed)
    (handed_on HasEntryConj (conj_moved c.args.v.now c.conj-item.result) HasEntryDomain (domain_moved c.args.v.now c.args.d.now)
    c.in_err-conj_translate.field-0.0 c.in_err-conj_translate.ensures
    (fits_at HasEntryConj (λ conj. conj_moved c.args.v.now conj) c.disjuncts-own.result.now c.args.d.now.disjuncts c.conjs.conj-index c.conj-item.result
    c.conjs-test.true c.conj-item.is c.disjuncts-own.ensures.value))

pub conjs-preserved : goal.conjs-preserved
conjs-preserved c =
    let change : Polyhedron → Polyhedron = λ conj. conj_moved c.args.v.now conj in
    let got = c.in_ok-conj_translate.field-0 in
    record {
      so_far = map-take-more change c.disjuncts-own.result.now c.conjs.conj-index c.conj-item.result got c.conjs.disjuncts.items c.push.new.self.items
          c.conjs-test.true c.conjs.invariant.so_far (c.in_ok-conj_translate.ensures.0 ∙ ap change c.conj-item.is) c.in_ok-push.ensures.items;
      entries = All-same HasEntryConj c.push.new.self.items (c.conjs.disjuncts.items ++ got ∷ []) c.in_ok-push.ensures.items
          (All-push HasEntryConj c.conjs.disjuncts.items got c.conjs.invariant.entries
          (subst HasEntryConj (sym c.in_ok-conj_translate.ensures.0) c.in_ok-conj_translate.ensures.1));
    }

pub of_list-requires : goal.of_list-requires
of_list-requires c =
    let change : Polyhedron → Polyhedron = λ conj. conj_moved c.args.v.now conj in
    let full : c.conjs.conj-index ≡ length c.disjuncts-own.result.now = omega arith in
    let all : c.from_vec.result ≡ map change c.args.d.now.disjuncts =
    map-take-all change c.disjuncts-own.result.now c.args.d.now.disjuncts c.conjs.conj-index c.from_vec.result
    (c.from_vec.ensures ∙ c.conjs.invariant.so_far) full c.disjuncts-own.ensures.value in
    let several : 0 < length c.args.d.now.disjuncts = subst (λ xs. 0 < length xs) c.disjuncts-own.ensures.value c.disjuncts-own.ensures.some in
    record {
      some = subst (λ xs. 0 < length xs) (sym all) (subst (λ n. 0 < n) (sym (length-map c.args.d.now.disjuncts change)) several);
      widths = subst (λ width. All (IsOver width) c.from_vec.result) (sym c.width.ensures)
          (All-same (IsOver c.args.d.now.width) c.from_vec.result (map change c.args.d.now.disjuncts) all
          (All-map (IsOver c.args.d.now.width) change c.args.d.now.disjuncts
          (All-same (IsOver c.args.d.now.width) c.args.d.now.disjuncts c.disjuncts-own.result.now (sym c.disjuncts-own.ensures.value) c.disjuncts-own.ensures.widths)));
    }

pub returns-clause-meaning : goal.returns-clause-meaning
returns-clause-meaning c = λ z long.
    let wanted = domain_moved c.args.v.now c.args.d.now in
    let full : c.conjs.conj-index ≡ length c.disjuncts-own.result.now = omega arith in
    let same : record { width = c.width.result; disjuncts = c.from_vec.result } ≡ wanted =
    union_is wanted _ _ c.width.ensures
    (map-take-all (λ conj. conj_moved c.args.v.now conj) c.disjuncts-own.result.now c.args.d.now.disjuncts c.conjs.conj-index c.from_vec.result
    (c.from_vec.ensures ∙ c.conjs.invariant.so_far) full c.disjuncts-own.ensures.value) in
    ok_law wanted (λ moved. HoldsSome moved z ↔ HoldsSome c.args.d.now (less z c.args.v.now)) c.of_list.result
    (subst (λ (value : Union). IfOk c.of_list.result (λ got. got ≡ value)) same c.of_list.ensures.ok)
    (moved_holds c.args.v.now c.args.d.now z long)
