use Rattle.std.proofs.Common.{◌≡◌, ◌∙◌, ◌+◌, ◌++◌, ◌∷◌, [], ap, sym, subst, rules, take, map, List, Err}
use Rattle.std.proofs.lemmas.List.{take_more, take_all, map-append}
use Rattle.std.specs.Prelude.{Option}
use Rattle.std.specs.List.{AllZip}
use Rattle.az_lin.specs.Affine.{Polyhedron}
use Rattle.loop_scan.specs.declared.range.Range.{Range}
use Rattle.loop_scan.specs.Boxes.{IsBox}
use Rattle.loop_scan.specs.Nest.Indices.{Bounds}
use Rattle.loop_scan.specs.Nest.Answered.{BoxesAnswer, ranges_of}
use Rattle.loop_scan.proofs.Lists.{AllZip-push}
use Rattle.loop_scan.proofs.Answering.{refused_disjunct, boxes_over}
use Rattle.loop_scan.proofs.boxes.boxes.Goals as goal

pub returns-in_err-box_of-clause-answer : goal.returns-in_err-box_of-clause-answer
returns-in_err-box_of-clause-answer c =
    let handed : c.from_residual-in_err-box_of.result ≡ Err c.in_err-box_of.field-0.0 = search rules in
    subst (λ r. BoxesAnswer c.args.disjuncts.now r) (sym handed)
    (refused_disjunct c.args.disjuncts.now (map ranges_of c.parts.boxes.items) c.parts.disjunct-index c.disjunct-item.result c.in_err-box_of.field-0.0
    c.parts-test.true c.disjunct-item.is c.parts.invariant.answered c.in_err-box_of.ensures.answer)

pub parts-preserved : goal.parts-preserved
parts-preserved c =
    let disjuncts = c.args.disjuncts.now in
    let i = c.parts.disjunct-index in
    let item = c.disjunct-item.result in
    let boxes = c.parts.boxes.items in
    let new = c.push.new.self.items in
    let box = ranges_of c.in_ok-box_of.field-0 in
    let ones : take (i + 1) disjuncts ≡ take i disjuncts ++ item ∷ [] =
    take_more disjuncts i item c.parts-test.true ∙ ap (λ (d : Polyhedron). take i disjuncts ++ d ∷ []) (sym c.disjunct-item.is) in
    let others : map ranges_of new ≡ map ranges_of boxes ++ box ∷ [] =
    ap (map ranges_of) c.in_ok-push.ensures.items ∙ map-append ranges_of boxes (c.in_ok-box_of.field-0 ∷ []) in
    let both : (R : Polyhedron → Option (List Range) → Type 0) → AllZip R (take i disjuncts) (map ranges_of boxes) → R item box → AllZip R (take (i + 1) disjuncts) (map ranges_of new) =
    λ R all here. subst (λ xs. AllZip R xs (map ranges_of new)) (sym ones)
    (subst (λ ys. AllZip R (take i disjuncts ++ item ∷ []) ys) (sym others) (AllZip-push R (take i disjuncts) (map ranges_of boxes) item box all here)) in
    record {
      answered = both IsBox c.parts.invariant.answered c.in_ok-box_of.ensures.answer;
      bound = both Bounds c.parts.invariant.bound c.in_ok-box_of.ensures.bounds;
    }

pub returns-clause-over : goal.returns-clause-over
returns-clause-over c =
    let disjuncts = c.args.disjuncts.now in
    let whole : take c.parts.disjunct-index disjuncts ≡ disjuncts = take_all c.parts.disjunct-index disjuncts c.parts-test.false in
    boxes_over c.args.width disjuncts (map ranges_of c.parts.boxes.items) c.requires.over
    (subst (λ ds. AllZip IsBox ds (map ranges_of c.parts.boxes.items)) whole c.parts.invariant.answered)
    (subst (λ ds. AllZip Bounds ds (map ranges_of c.parts.boxes.items)) whole c.parts.invariant.bound)
