use Rattle.std.proofs.Common.{◌≡◌, sym, subst, map, rules, Err, inl, inr, List, Option}
use Rattle.std.specs.Global.{Vec}
use Rattle.std.specs.List.{All}
use Rattle.std.proofs.lemmas.Bool.{MatchBool-at_true, MatchBool-at_false}
use Rattle.loop_scan.specs.declared.range.Range.{Range}
use Rattle.loop_scan.specs.Answers.{PointsAnswers}
use Rattle.loop_scan.specs.Hulls.{IsSmall, IsLarge}
use Rattle.loop_scan.specs.Nest.Answered.{ranges_of}
use Rattle.loop_scan.specs.Nest.Joined.{IsBoxOver}
use Rattle.loop_scan.proofs.Parting.{points_answers, points_passed}
use Rattle.loop_scan.proofs.OneBox.{ok_unrefused}
use Rattle.loop_scan.proofs.points.box_points.Goals as goal

pub returns-in_err-located-clause-answer : goal.returns-in_err-located-clause-answer
returns-in_err-located-clause-answer c =
    let handed : c.from_residual.result ≡ Err c.in_err-located.field-0.0 = search rules in
    subst (λ r. PointsAnswers c.args.d.now c.args.params.now r) (sym handed) (inl c.in_err-located.ensures)

pub is_small-requires : goal.is_small-requires
is_small-requires c =
    let located = c.in_ok-located.ensures in
    let over = subst (λ n. All (IsBoxOver n) (map ranges_of c.in_ok-located.located.boxes.items)) (sym c.width.ensures) located.over in
    subst (λ (bs : List (Option (Vec Range))). All (IsBoxOver c.width.result) (map ranges_of bs)) (sym c.as_slice.ensures.value) over

pub returns-then-not-branch-clause-answer : goal.returns-then-not-branch-clause-answer
returns-then-not-branch-clause-answer c =
    let boxes = c.in_ok-located.located.boxes.items in
    let large = MatchBool-at_false (IsSmall c.width.result (map ranges_of c.as_slice.result.now)) (IsLarge c.width.result (map ranges_of c.as_slice.result.now)) c.if-not-branch.true c.in_ok-is_small.ensures in
    inr (points_passed c.args.d.now c.args.params.now c.in_ok-located.located c.width.result c.in_ok-located.ensures c.width.ensures
    (subst (λ (bs : List (Option (Vec Range))). IsLarge c.width.result (map ranges_of bs)) c.as_slice.ensures.value large))

pub returns : goal.returns
returns c =
    let small = MatchBool-at_true (IsSmall c.width.result (map ranges_of c.as_slice.result.now)) (IsLarge c.width.result (map ranges_of c.as_slice.result.now)) c.if-not-branch.false c.in_ok-is_small.ensures in
    let answer = points_answers c.args.d.now c.args.params.now c.in_ok-located.located c.width.result c.in_ok-over.field-0 c.collected.result c.in_ok-located.ensures c.width.ensures
    (subst (λ (bs : List (Option (Vec Range))). IsSmall c.width.result (map ranges_of bs)) c.as_slice.ensures.value small)
    c.in_ok-over.ensures.ok c.collected.ensures.ok c.collected.ensures.cause in
    record { answer = answer; only = ok_unrefused c.args.d.now c.args.params.now c.collected.result answer }
