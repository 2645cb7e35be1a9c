use Rattle.std.proofs.Common.{◌∙◌, ◌++◌, ◌∷◌, [], sym, subst, List, Option}
use Rattle.std.specs.Global.{Vec}
use Rattle.std.specs.List.{All}
use Rattle.loop_scan.specs.declared.range.Range.{Range}
use Rattle.loop_scan.specs.declared.walk.Walk.{Walk}
use Rattle.loop_scan.specs.Hulls.{HasNumber}
use Rattle.loop_scan.specs.Nest.Indices.{BoundsPoint}
use Rattle.loop_scan.specs.Nest.Answered.{ranges_of}
use Rattle.loop_scan.specs.Nest.Parts.{IsWalkOf, AreWalksOf}
use Rattle.loop_scan.proofs.Parting.{full_of_point, none_more, one_more}
use Rattle.loop_scan.proofs.walks.add_walk.Goals as goal

pub returns-in_default-clause-ok : goal.returns-in_default-clause-ok
returns-in_default-clause-ok c = λ disjuncts are.
    none_more c.args.width disjuncts c.args.system.now c.args.walks.now.items are
    (λ y e h. subst (λ (o : Option (Vec Range)). BoundsPoint y (ranges_of o)) c.in_default.is (c.requires.bounds.points y (e ∙ sym c.requires.over) h))

pub returns-then-not-is_full-clause-ok : goal.returns-then-not-is_full-clause-ok
returns-then-not-is_full-clause-ok c = λ disjuncts are.
    none_more c.args.width disjuncts c.args.system.now c.args.walks.now.items are
    (λ y e h.
    let inside = subst (λ (o : Option (Vec Range)). BoundsPoint y (ranges_of o)) c.in-Some.is (c.requires.bounds.points y (e ∙ sym c.requires.over) h) in
    let full = subst (λ (rs : List Range). All HasNumber rs) (sym c.as_slice.ensures.value) (full_of_point c.in-Some.ranges.items y inside) in
    let t = c.is_full.ensures.1 full in
    let f = c.if-not-is_full.true in
    absurd (cc))

pub returns-in_default-2-clause-ok : goal.returns-in_default-2-clause-ok
returns-in_default-2-clause-ok c = λ disjuncts are.
    none_more c.args.width disjuncts c.args.system.now c.args.walks.now.items are
    (subst (λ (o : Option Walk). IsWalkOf c.args.width c.args.system.now o) c.in_default-2.is c.in_ok-walk.ensures.ok)

pub returns-clause-ok : goal.returns-clause-ok
returns-clause-ok c = λ disjuncts are.
    subst (λ (ws : List Walk). AreWalksOf c.args.width (disjuncts ++ c.args.system.now ∷ []) ws) (sym c.in_ok-push.ensures.items)
    (one_more c.args.width disjuncts c.args.system.now c.args.walks.now.items are c.in-Some-2.walk
    (subst (λ (o : Option Walk). IsWalkOf c.args.width c.args.system.now o) c.in-Some-2.is c.in_ok-walk.ensures.ok))
