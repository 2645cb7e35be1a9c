use Rattle.std.proofs.Common.{◌≡◌, ◌∙◌, ◌<◌, ◌+◌, ap, sym, subst, arith, rules, length, get_or, pos, List, Option, Ok, Err}
use Rattle.std.proofs.lemmas.List.{length_push}
use Rattle.loop_scan.specs.declared.range.Range.{Range}
use Rattle.loop_scan.specs.Boxes.{HasRange}
use Rattle.loop_scan.specs.Nest.Levels.{IsIn}
use Rattle.loop_scan.specs.Nest.Indices.{IndexAnswers, BoundsIndex}
use Rattle.loop_scan.specs.Nest.Answered.{BoxAnswers}
use Rattle.loop_scan.proofs.Answering.{refused_at, have_ranges, each_more, box_bounds}
use Rattle.loop_scan.proofs.boxes.box_of.Goals as goal

pub returns-in_err-range-clause-answer : goal.returns-in_err-range-clause-answer
returns-in_err-range-clause-answer c =
    let system = c.args.system.now in
    let k = c.indices.column in
    let handed : c.from_residual-in_err-range.result ≡ Err c.in_err-range.field-0.0 = search rules in
    let inside : k < system.width = omega (arith, c.indices-test.true, c.requires.over) in
    subst (λ r. BoxAnswers system r) (sym handed)
    (refused_at system k c.in_err-range.field-0.0 inside (have_ranges system k c.indices.ranges.items c.indices.invariant.each) c.in_err-range.ensures.answer)

pub returns-in-None-clause-answer : goal.returns-in-None-clause-answer
returns-in-None-clause-answer c =
    let system = c.args.system.now in
    let k = c.indices.column in
    let inside : k < system.width = omega (arith, c.indices-test.true, c.requires.over) in (
      k,
      inside,
      have_ranges system k c.indices.ranges.items c.indices.invariant.each,
      subst (λ (o : Option Range). IndexAnswers system k (Ok o)) c.in-None.is c.in_ok-range.ensures.answer,
    )

pub indices-preserved : goal.indices-preserved
indices-preserved c =
    let system = c.args.system.now in
    let k = c.indices.column in
    let ranges = c.indices.ranges.items in
    let range = c.in-Some.range in
    let inv = c.indices.invariant in
    let new = c.in_ok-push-in-Some.ensures.items in
    let has = subst (λ (o : Option Range). IndexAnswers system k (Ok o)) c.in-Some.is c.in_ok-range.ensures.answer in
    record {
      count = ap length new ∙ length_push ranges range ∙ ap (λ n. n + 1) inv.count;
      each = λ j d l. subst (λ (rs : List Range). HasRange system j (get_or rs j d)) (sym new) (each_more (HasRange system) ranges range k inv.count has inv.each j d l);
      sound = λ z e h j d l.
          let holds = subst (λ (o : Option Range). BoundsIndex z k o) c.in-Some.is (c.in_ok-range.ensures.sound z e h) in
          subst (λ (rs : List Range). IsIn (get_or rs j d) (get_or z j (pos 0))) (sym new)
          (each_more (λ n r. IsIn r (get_or z n (pos 0))) ranges range k inv.count holds (λ i f m. inv.sound z e h i f m) j d l);
    }

pub returns-clause-bounds : goal.returns-clause-bounds
returns-clause-bounds c =
    let inv = c.indices.invariant in
    let end : c.indices.column ≡ c.args.system.now.width = omega (arith, c.indices-test.false, c.indices.auto, c.requires.over) in
    box_bounds c.args.system.now c.indices.ranges.items (inv.count ∙ end)
    (λ k d h. inv.each k d (omega (arith, h, end)))
    (λ z e h k d l. inv.sound z e h k d (omega (arith, l, end)))
