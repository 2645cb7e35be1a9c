use Rattle.std.proofs.Common.{◌≡◌, ◌∙◌, ◌+◌, ◌*◌, ap, sym, arith, min, take, get_or, pos}
use Rattle.std.proofs.lemmas.Bool.{leb-true, le-leb}
use Rattle.std.proofs.lemmas.List.{take_all, take_more}
use Rattle.loop_scan.specs.declared.range.Range.{Range}
use Rattle.loop_scan.specs.Hulls.{size, points_in}
use Rattle.loop_scan.proofs.Hulls.{capped, points_in-push}
use Rattle.loop_scan.proofs.hull.has_few.Goals as goal

pub sizes-preserved : goal.sizes-preserved
sizes-preserved c =
    let hull = c.args.hull.now in
    let i = c.sizes.range-index in
    let zero : Range = record { low = pos 0; high = pos 0 } in
    let item = get_or hull i zero in
    let more : points_in (take (i + 1) hull) ≡ points_in (take i hull) * size item =
    ap points_in (take_more hull i zero c.sizes-test.true) ∙ points_in-push (take i hull) item in
    c.capped-points.ensures ∙ ap (λ n. min (n * size item) 4194305) c.sizes.invariant ∙ capped (points_in (take i hull)) (size item) 4194305 ∙ ap (λ n. min n 4194305) (sym more)

pub returns : goal.returns
returns c =
    let hull = c.args.hull.now in
    let counted : c.sizes.points ≡ min (points_in hull) 4194305 =
    c.sizes.invariant ∙ ap (λ rs. min (points_in rs) 4194305) (take_all c.sizes.range-index hull c.sizes-test.false) in
    (λ t. omega (arith, counted, leb-true c.sizes.points 4194304 t), λ h. le-leb c.sizes.points 4194304 (omega (arith, counted, h)))
