use Rattle.std.proofs.Common.{◌≡◌, ◌+◌, length, map, arith, ap, sym, ◌∙◌, subst, All, IfOk, ◌↔◌, refl}
use Rattle.std.proofs.lemmas.List.Elements.{All-same}
use Rattle.az_lin.specs.Affine.{Polyhedron, Union, IsOver, HoldsSome}
use Rattle.az_lin.specs.Columns.{without, widened_conj, widened_domain}
use Rattle.az_lin.proofs.Mapped.{map-take-more, map-take-all}
use Rattle.az_lin.proofs.Lists.{union_is}
use Rattle.az_lin.proofs.HeldPoints.{widened_domain_holds}
use Rattle.az_lin.proofs.Exactly.{ok_law}
use Rattle.row_columns.proofs.Made.{over_widened}
use Rattle.row_columns.proofs.widen.widened_domain.Goals as goal

pub conjs-preserved : goal.conjs-preserved
conjs-preserved c =
    let change : Polyhedron → Polyhedron = λ conj. widened_conj c.args.place c.args.count conj in
    map-take-more change c.disjuncts-own.result.now c.conjs.conj-index c.conj-item.result c.in_ok-widened_conj.field-0 c.conjs.disjuncts.items c.push.new.self.items
    c.conjs-test.true c.conjs.invariant (c.in_ok-widened_conj.ensures.ok ∙ ap change c.conj-item.is) c.in_ok-push.ensures.items

pub of_list-requires-clause-widths : goal.of_list-requires-clause-widths
of_list-requires-clause-widths c =
    let change : Polyhedron → Polyhedron = λ conj. widened_conj c.args.place c.args.count conj in
    let full : c.conjs.conj-index ≡ length c.disjuncts-own.result.now = omega arith in
    let all : c.from_vec.result ≡ map change c.disjuncts-own.result.now =
    map-take-all change c.disjuncts-own.result.now c.disjuncts-own.result.now c.conjs.conj-index c.from_vec.result (c.from_vec.ensures ∙ c.conjs.invariant) full refl in
    subst (λ width. All (IsOver (width + c.args.count)) c.from_vec.result) (sym c.width.ensures)
    (All-same (IsOver (c.args.d.now.width + c.args.count)) c.from_vec.result (map change c.disjuncts-own.result.now) all
    (over_widened c.args.place c.args.count c.args.d.now.width c.disjuncts-own.result.now c.disjuncts-own.ensures.widths))

pub returns-clause-meaning : goal.returns-clause-meaning
returns-clause-meaning c = λ z.
    let wanted = widened_domain c.args.place c.args.count c.args.d.now in
    let full : c.conjs.conj-index ≡ length c.disjuncts-own.result.now = omega arith in
    let same : record { width = c.width.result + c.args.count; disjuncts = c.from_vec.result } ≡ wanted =
    union_is wanted _ _ (ap (λ n. n + c.args.count) c.width.ensures)
    (map-take-all (λ conj. widened_conj c.args.place c.args.count conj) c.disjuncts-own.result.now c.args.d.now.disjuncts c.conjs.conj-index c.from_vec.result
    (c.from_vec.ensures ∙ c.conjs.invariant) full c.disjuncts-own.ensures.value) in
    ok_law wanted (λ wide. HoldsSome wide z ↔ HoldsSome c.args.d.now (without c.args.place c.args.count z)) c.of_list.result
    (subst (λ (value : Union). IfOk c.of_list.result (λ wide. wide ≡ value)) same c.of_list.ensures.ok)
    (widened_domain_holds c.args.place c.args.count c.args.d.now z)
