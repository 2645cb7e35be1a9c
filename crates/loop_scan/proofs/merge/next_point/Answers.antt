use Rattle.std.proofs.Common.{◌≡◌, ◌∷◌, ◌∙◌, ap, refl, sym, map, get_or, List, ℤ}
use Rattle.loop_scan.specs.declared.head.Head.{Head}
use Rattle.loop_scan.specs.Nest.Merges.{merged, passed, ahead}
use Rattle.loop_scan.proofs.Firsts.{merged-none, merged-first, map-map-passed}
use Rattle.loop_scan.proofs.merge.next_point.Goals as goal

pub returns-in_default-clause-point : goal.returns-in_default-clause-point
returns-in_default-clause-point c = (merged-none c.args.heads.now c.in_default.ensures, refl, refl)

pub returns-clause-point : goal.returns-clause-point
returns-clause-point c =
    let heads = c.args.heads.now in
    let head = c.index-heads-place.result in
    let place = c.in-Some.place in
    let out = c.copy_from_slice.new.self in
    let of_place : Head → List ℤ = λ x. x.walk.point.items in
    let same : of_place (get_or heads place head) ≡ out =
    sym (c.copy_from_slice.ensures.after ∙ c.point.ensures) in
    merged-first c.args.width heads place head c.requires.state c.in-Some.ensures
    ∙ ap (λ p. p ∷ merged (map (passed p) (map ahead heads))) same
    ∙ ap (λ lists. out ∷ merged lists) (map-map-passed out heads ∙ sym c.pass.ensures.points)
