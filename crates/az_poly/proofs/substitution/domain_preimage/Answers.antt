use Rattle.std.proofs.Common.{◌≡◌, ◌<◌, ◌++◌, [], ◌∷◌, length, map, arith, rules, ap, sym, ◌∙◌, subst, All, Err, IfOk, ◌↔◌, refl}
use Rattle.std.proofs.lemmas.List.{length-map}
use Rattle.std.proofs.lemmas.List.Elements.{All-push, All-same, All-map}
use Rattle.az_lin.specs.Affine.{Polyhedron, Union, HasWidth, IsOver, HoldsSome, image_of}
use Rattle.az_lin.proofs.Mapped.{map-take-more, map-take-all, fits_at}
use Rattle.az_lin.specs.Affine.{HasEntryConj, HasEntryDomain}
use Rattle.az_lin.specs.Answers.{IsExactly}
use Rattle.az_poly.specs.Operations.{conj_before, domain_before}
use Rattle.az_lin.proofs.Exactly.{handed_on, ok_law}
use Rattle.az_lin.proofs.Lists.{union_is}
use Rattle.az_poly.proofs.Held.{before_holds}
use Rattle.az_poly.proofs.substitution.domain_preimage.Goals as goal

pub returns-in_err-conj_preimage-clause-exact : goal.returns-in_err-conj_preimage-clause-exact
returns-in_err-conj_preimage-clause-exact c =
    let handed : c.from_residual-in_err-conj_preimage.result ≡ Err c.in_err-conj_preimage.field-0.0 = search rules in
    subst (λ answer. IsExactly HasEntryDomain (domain_before c.args.f.now c.args.d.now) answer) (sym handed)
    (handed_on HasEntryConj (conj_before c.args.f.now c.conj-item.result) HasEntryDomain (domain_before c.args.f.now c.args.d.now)
    c.in_err-conj_preimage.field-0.0 c.in_err-conj_preimage.ensures
    (fits_at HasEntryConj (λ conj. conj_before c.args.f.now conj) c.disjuncts-own.result.now c.args.d.now.disjuncts c.conjs.conj-index c.conj-item.result
    c.conjs-test.true c.conj-item.is c.disjuncts-own.ensures.value))

pub conjs-preserved : goal.conjs-preserved
conjs-preserved c =
    let change : Polyhedron → Polyhedron = λ conj. conj_before c.args.f.now conj in
    let got = c.in_ok-conj_preimage.field-0 in
    record {
      so_far = map-take-more change c.disjuncts-own.result.now c.conjs.conj-index c.conj-item.result got c.conjs.disjuncts.items c.push.new.self.items
          c.conjs-test.true c.conjs.invariant.so_far (c.in_ok-conj_preimage.ensures.0 ∙ ap change c.conj-item.is) c.in_ok-push.ensures.items;
      entries = All-same HasEntryConj c.push.new.self.items (c.conjs.disjuncts.items ++ got ∷ []) c.in_ok-push.ensures.items
          (All-push HasEntryConj c.conjs.disjuncts.items got c.conjs.invariant.entries
          (subst HasEntryConj (sym c.in_ok-conj_preimage.ensures.0) c.in_ok-conj_preimage.ensures.1));
    }

pub of_list-requires : goal.of_list-requires
of_list-requires c =
    let change : Polyhedron → Polyhedron = λ conj. conj_before c.args.f.now conj in
    let full : c.conjs.conj-index ≡ length c.disjuncts-own.result.now = omega arith in
    let all : c.from_vec.result ≡ map change c.args.d.now.disjuncts =
    map-take-all change c.disjuncts-own.result.now c.args.d.now.disjuncts c.conjs.conj-index c.from_vec.result
    (c.from_vec.ensures ∙ c.conjs.invariant.so_far) full c.disjuncts-own.ensures.value in
    let several : 0 < length c.args.d.now.disjuncts = subst (λ xs. 0 < length xs) c.disjuncts-own.ensures.value c.disjuncts-own.ensures.some in
    record {
      some = subst (λ xs. 0 < length xs) (sym all) (subst (λ n. 0 < n) (sym (length-map c.args.d.now.disjuncts change)) several);
      widths = subst (λ width. All (IsOver width) c.from_vec.result) (sym c.width.ensures.value)
          (All-same (IsOver c.args.f.now.width) c.from_vec.result (map change c.args.d.now.disjuncts) all
          (All-map (IsOver c.args.f.now.width) change c.args.d.now.disjuncts (λ k d h. refl)));
    }

pub returns-clause-meaning : goal.returns-clause-meaning
returns-clause-meaning c = λ z.
    let wanted = domain_before c.args.f.now c.args.d.now in
    let full : c.conjs.conj-index ≡ length c.disjuncts-own.result.now = omega arith in
    let same : record { width = c.width.result; disjuncts = c.from_vec.result } ≡ wanted =
    union_is wanted _ _ c.width.ensures.value
    (map-take-all (λ conj. conj_before c.args.f.now conj) c.disjuncts-own.result.now c.args.d.now.disjuncts c.conjs.conj-index c.from_vec.result
    (c.from_vec.ensures ∙ c.conjs.invariant.so_far) full c.disjuncts-own.ensures.value) in
    let wide : All (HasWidth c.args.f.now.width) c.args.f.now.rows = subst (λ width. All (HasWidth width) c.args.f.now.rows) c.width.ensures.value c.width.ensures.widths in
    ok_law wanted (λ before. HoldsSome before z ↔ HoldsSome c.args.d.now (image_of c.args.f.now z)) c.of_list.result
    (subst (λ (value : Union). IfOk c.of_list.result (λ got. got ≡ value)) same c.of_list.ensures.ok)
    (before_holds c.args.f.now c.args.d.now z wide)
