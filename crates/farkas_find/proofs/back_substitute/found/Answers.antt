use Rattle.std.proofs.Common.{◌≡◌, ◌<◌, ◌-◌, ◌+◌, ◌∙◌, ℕ, ap, arith, List, length, get_or}
use Rattle.farkas_find.specs.declared.trail.Eliminated.{Eliminated}
use Rattle.farkas_find.specs.BackSubstitution.{point_in, origin}
use Rattle.farkas_find.proofs.Placing.{found_narrow, found_more}
use Rattle.farkas_find.proofs.back_substitute.found.Goals as goal

at_place : (trail : List Eliminated) (gone : Eliminated) (done : ℕ) → done < length trail → gone ≡ get_or trail (length trail - 1 - done) gone
    → gone ≡ get_or trail (length trail - (done + 1)) gone
at_place trail gone done inside is =
    let same : length trail - 1 - done ≡ length trail - (done + 1) = omega arith in
    is ∙ ap (λ (n : ℕ). get_or trail n gone) same

pub returns-in-None-clause-exact : goal.returns-in-None-clause-exact
returns-in-None-clause-exact c =
    let trail = c.args.trail.now in
    let made = rw c.in-None.is at c.in_ok-next.ensures.exact in
    found_narrow trail (length trail - 1 - c.trail.done) (length trail - c.trail.done) c.index-trail-trail.result (origin c.args.width) (point_in c.trail.found)
    (omega (arith, c.trail-test.true)) (omega (arith, c.trail-test.true)) c.index-trail-trail.is c.trail.invariant.point made

pub trail-preserved : goal.trail-preserved
trail-preserved c =
    let trail = c.args.trail.now in
    let exact = rw c.in-Some.is at c.in_ok-next.ensures.exact in
    let denominator = rw c.in-Some.is at c.in_ok-next.ensures.denominator in
    let width = rw c.in-Some.is at c.in_ok-next.ensures.width in
    let more = found_more trail (length trail - (c.trail.done + 1)) (length trail - c.trail.done) c.index-trail-trail.result (origin c.args.width) (point_in c.trail.found) (point_in c.in-Some.next)
    (omega (arith, c.trail-test.true)) (omega (arith, c.trail-test.true)) (at_place trail c.index-trail-trail.result c.trail.done c.trail-test.true c.index-trail-trail.is) c.trail.invariant.point c.trail.invariant.wide exact.0 exact.1 in
    record {
      point = more.0;
      wide = more.1;
      denominator = denominator;
      width = width ∙ c.trail.invariant.width;
    }
