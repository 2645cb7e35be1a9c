use Rattle.std.proofs.Common.{◌≡◌, ◌∙◌, ◌++◌, ◌∷◌, [], ◌+◌, ◌<◌, ℕ, ap, arith, sym, subst, length, map, take, get_or, List, Option}
use Rattle.std.specs.Global.{Vec}
use Rattle.std.specs.List.{AllZip}
use Rattle.std.proofs.lemmas.List.{length-map, take_more, get_or-map}
use Rattle.az_lin.specs.Affine.{Polyhedron}
use Rattle.loop_scan.specs.declared.range.Range.{Range}
use Rattle.loop_scan.specs.Boxes.{IsBox}
use Rattle.loop_scan.specs.Nest.Indices.{Bounds}
use Rattle.loop_scan.specs.Nest.Answered.{ranges_of}
use Rattle.loop_scan.specs.Nest.Parts.{AreWalksOf}
use Rattle.loop_scan.proofs.Lists.{AllZip-length, AllZip-at}
use Rattle.loop_scan.proofs.walks.walks.Goals as goal

-- the disjunct and the box at one place
at_place : (R : Polyhedron → Option (List Range) → Type 0) (disjuncts : List Polyhedron) (boxes : List (Option (Vec Range))) (i : ℕ) (disjunct : Polyhedron) (box : Option (Vec Range))
    → i < length disjuncts → i < length boxes → disjunct ≡ get_or disjuncts i disjunct → box ≡ get_or boxes i box → AllZip R disjuncts (map ranges_of boxes) → R disjunct (ranges_of box)
at_place R disjuncts boxes i disjunct box h l is same all =
    let both = AllZip-at R disjuncts (map ranges_of boxes) i disjunct (ranges_of box) h all in
    subst (λ (d : Polyhedron). R d (ranges_of box)) (sym is)
    (subst (λ (b : Option (List Range)). R (get_or disjuncts i disjunct) b) (get_or-map ranges_of boxes i box (ranges_of box) l ∙ ap ranges_of (sym same)) both)

as_many : (disjuncts : List Polyhedron) (boxes : List (Option (Vec Range))) → AllZip IsBox disjuncts (map ranges_of boxes) → length disjuncts ≡ length boxes
as_many disjuncts boxes all = AllZip-length IsBox disjuncts (map ranges_of boxes) all ∙ length-map boxes ranges_of

pub bounds-boxes-place : goal.bounds-boxes-place
bounds-boxes-place c = omega (arith, as_many c.args.disjuncts.now c.args.boxes.now c.requires.boxes, c.disjuncts-test.true)

pub add_walk-requires-clause-box_of : goal.add_walk-requires-clause-box_of
add_walk-requires-clause-box_of c =
    at_place IsBox c.args.disjuncts.now c.args.boxes.now c.disjuncts.place c.index-disjuncts-place.result c.index-boxes-place.result c.disjuncts-test.true
    (omega (arith, as_many c.args.disjuncts.now c.args.boxes.now c.requires.boxes, c.disjuncts-test.true)) c.index-disjuncts-place.is c.index-boxes-place.is c.requires.boxes

pub add_walk-requires-clause-bounds : goal.add_walk-requires-clause-bounds
add_walk-requires-clause-bounds c =
    at_place Bounds c.args.disjuncts.now c.args.boxes.now c.disjuncts.place c.index-disjuncts-place.result c.index-boxes-place.result c.disjuncts-test.true
    (omega (arith, as_many c.args.disjuncts.now c.args.boxes.now c.requires.boxes, c.disjuncts-test.true)) c.index-disjuncts-place.is c.index-boxes-place.is c.requires.bounds

pub disjuncts-preserved : goal.disjuncts-preserved
disjuncts-preserved c =
    let disjuncts = c.args.disjuncts.now in
    let i = c.disjuncts.place in
    let item = c.index-disjuncts-place.result in
    let ones : take (i + 1) disjuncts ≡ take i disjuncts ++ item ∷ [] =
    take_more disjuncts i item c.disjuncts-test.true ∙ ap (λ (d : Polyhedron). take i disjuncts ++ d ∷ []) (sym c.index-disjuncts-place.is) in
    subst (λ (ds : List Polyhedron). AreWalksOf c.args.width ds c.add_walk.new.walks.items) (sym ones) (c.in_ok-add_walk.ensures.ok (take i disjuncts) c.disjuncts.invariant)
