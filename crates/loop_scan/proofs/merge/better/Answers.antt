use Rattle.std.proofs.Common.{◌≡◌, arith, subst, sym, rules, true, Some, None}
use Rattle.std.specs.declared.cmp.Ordering.TheVariants.{Less}
use Rattle.std.specs.Ordering.{int_cmp}
use Rattle.std.specs.Cmp.Lexicographic.{slice_cmp}
use Rattle.az_ast.specs.Points.{Precedes}
use Rattle.loop_scan.specs.Nest.Merges.{IsFirst}
use Rattle.loop_scan.proofs.Firsts.{first-none, first-better, comes_from, live_from}
use Rattle.loop_scan.proofs.merge.better.Goals as goal

pub returns-in_default : goal.returns-in_default
returns-in_default c =
    let heads = c.args.heads.now in
    let head = c.index-heads-place.result in
    let live : head.live ≡ true = search rules in
    let none : c.args.first ≡ None = c.in_default.is in
    first-none heads c.args.place head (live_from heads c.args.place head c.requires.inside c.index-heads-place.is live)
    (subst (λ o. IsFirst heads c.args.place o) none c.requires.first)

pub returns-in-Less : goal.returns-in-Less
returns-in-Less c =
    let heads = c.args.heads.now in
    let head = c.index-heads-place.result in
    let other = c.in-Some.other in
    let live : head.live ≡ true = search rules in
    let some : c.args.first ≡ Some other = c.in-Some.is in
    let is = subst (λ o. IsFirst heads c.args.place o) some c.requires.first in
    let before : Precedes head.walk.point.items c.index-heads-other.result.walk.point.items =
    subst (λ q. slice_cmp int_cmp head.walk.point.items q ≡ Less) c.point.ensures (sym c.in-Less.ensures) in
    first-better heads c.args.place head other (live_from heads c.args.place head c.requires.inside c.index-heads-place.is live)
    (comes_from heads c.args.place other head c.index-heads-other.result c.requires.inside (omega (arith, is.0, c.requires.inside)) c.index-heads-place.is c.index-heads-other.is before) is
