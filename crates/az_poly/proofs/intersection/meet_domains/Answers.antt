use Rattle.std.proofs.Common.{◌≡◌, ◌<◌, ◌++◌, List, length, map, arith, ap, sym, ◌∙◌, subst, All, IfOk, ◌↔◌}
use Rattle.std.proofs.lemmas.List.{length-map}
use Rattle.std.proofs.lemmas.List.Elements.{All-same}
use Rattle.az_lin.specs.Affine.{Polyhedron, Union, IsOver, HoldsSome}
use Rattle.az_poly.specs.Operations.{both, intersection}
use Rattle.az_lin.proofs.Lists.{flat_map-take-more, flat_map-some, union_is}
use Rattle.az_poly.proofs.Held.{intersection_holds, met_all, meets_over}
use Rattle.az_lin.proofs.Exactly.{ok_law}
use Rattle.az_poly.proofs.intersection.meet_domains.Goals as goal

pub push_meets-requires : goal.push_meets-requires
push_meets-requires c =
    let first = c.first-item.result in
    let over : IsOver c.args.a.now.width first =
    subst (IsOver c.args.a.now.width) (sym c.first-item.is) (c.disjuncts-first-items.ensures.widths c.firsts.first-index first c.firsts-test.true) in
    subst (λ width. All (IsOver width) c.disjuncts-seconds.result.now) (sym (over ∙ c.requires)) c.disjuncts-seconds.ensures.widths

pub firsts-preserved : goal.firsts-preserved
firsts-preserved c =
    let meets : Polyhedron → List Polyhedron = λ first. map (λ second. both first second) c.disjuncts-seconds.result.now in
    flat_map-take-more meets c.disjuncts-first-items.result.now c.firsts.first-index c.first-item.result c.firsts.met.items c.push_meets.new.met.items
    c.firsts-test.true c.firsts.invariant
    (c.in_ok-push_meets.ensures.ok ∙ ap (λ x. c.firsts.met.items ++ meets x) c.first-item.is)

pub of_list-requires : goal.of_list-requires
of_list-requires c =
    let full : c.firsts.first-index ≡ length c.disjuncts-first-items.result.now = omega arith in
    let all : c.from_vec.result ≡ (intersection c.args.a.now c.args.b.now).disjuncts = c.from_vec.ensures
    ∙ met_all c.args.a.now c.args.b.now c.disjuncts-first-items.result.now c.disjuncts-seconds.result.now c.firsts.first-index c.firsts.met.items
    full c.disjuncts-first-items.ensures.value c.disjuncts-seconds.ensures.value c.firsts.invariant in
    let firsts : 0 < length c.args.a.now.disjuncts = subst (λ xs. 0 < length xs) c.disjuncts-first-items.ensures.value c.disjuncts-first-items.ensures.some in
    let seconds : 0 < length c.args.b.now.disjuncts = subst (λ xs. 0 < length xs) c.disjuncts-seconds.ensures.value c.disjuncts-seconds.ensures.some in
    record {
      some = subst (λ xs. 0 < length xs) (sym all)
          (flat_map-some (λ first. map (λ second. both first second) c.args.b.now.disjuncts) c.args.a.now.disjuncts firsts
          (λ first. subst (λ n. 0 < n) (sym (length-map c.args.b.now.disjuncts (λ second. both first second))) seconds));
      widths = subst (λ width. All (IsOver width) c.from_vec.result) (sym c.width.ensures)
          (All-same (IsOver c.args.a.now.width) c.from_vec.result (intersection c.args.a.now c.args.b.now).disjuncts all
          (meets_over c.args.a.now.width c.args.a.now.disjuncts c.args.b.now.disjuncts
          (All-same (IsOver c.args.a.now.width) c.args.a.now.disjuncts c.disjuncts-first-items.result.now (sym c.disjuncts-first-items.ensures.value) c.disjuncts-first-items.ensures.widths)));
    }

same : (c : goal.After-of_list) → record { width = c.width.result; disjuncts = c.from_vec.result } ≡ intersection c.args.a.now c.args.b.now
same c =
    let full : c.firsts.first-index ≡ length c.disjuncts-first-items.result.now = omega arith in
    union_is (intersection c.args.a.now c.args.b.now) _ _ c.width.ensures
    (c.from_vec.ensures
    ∙ met_all c.args.a.now c.args.b.now c.disjuncts-first-items.result.now c.disjuncts-seconds.result.now c.firsts.first-index c.firsts.met.items
    full c.disjuncts-first-items.ensures.value c.disjuncts-seconds.ensures.value c.firsts.invariant)

pub returns-clause-ok : goal.returns-clause-ok
returns-clause-ok c = subst (λ (value : Union). IfOk c.of_list.result (λ met. met ≡ value)) (same c) c.of_list.ensures.ok

pub returns-clause-meaning : goal.returns-clause-meaning
returns-clause-meaning c = λ z.
    ok_law (intersection c.args.a.now c.args.b.now) (λ met. HoldsSome met z ↔ (HoldsSome c.args.a.now z × HoldsSome c.args.b.now z)) c.of_list.result
    (returns-clause-ok c) (intersection_holds c.args.a.now c.args.b.now z)
