use Rattle.std.proofs.Common.{◌≡◌, ◌∷◌, [], arith, subst, length, map, List}
use Rattle.std.specs.List.{All}
use Rattle.std.proofs.lemmas.List.Elements.{All-head}
use Rattle.az_lin.proofs.Lists.{both_ways, All-right}
use Rattle.loop_scan.specs.declared.walk.Walk.{Walk}
use Rattle.loop_scan.specs.Nest.Merges.{ahead}
use Rattle.loop_scan.specs.Nest.Parts.{IsWalkOver}
use Rattle.loop_scan.proofs.Merging.{merged-increasing}
use Rattle.loop_scan.proofs.Parting.{merge_gives, alone_gives}
use Rattle.loop_scan.proofs.scanner.together.Goals as goal

pub returns-then-len-ne1-clause-increasing : goal.returns-then-len-ne1-clause-increasing
returns-then-len-ne1-clause-increasing c = merged-increasing (map ahead c.in_ok-heads_of.field-0.items)

pub returns-then-len-ne1-clause-points : goal.returns-then-len-ne1-clause-points
returns-then-len-ne1-clause-points c = λ y. both_ways (merge_gives y c.in_ok-heads_of.field-0.items) (c.in_ok-heads_of.ensures.points y)

pub returns-clause-state : goal.returns-clause-state
returns-clause-state c =
    let width = c.args.width in
    let walk = c.in-Some.walk in
    let rest = c.pop.new.self.items in
    let all = subst (λ (ws : List Walk). All (IsWalkOver width) ws) c.in-Some.ensures.items c.requires.walks in
    let over = All-head (IsWalkOver width) walk [] (All-right (IsWalkOver width) rest (walk ∷ []) all) in
    (over.state, over.levels)

pub returns-clause-points : goal.returns-clause-points
returns-clause-points c = λ y.
    let one : length c.args.walks.items ≡ 1 = omega (arith, c.if-len-ne1.false, c.len.ensures, c.args.walks.ok.0) in
    alone_gives y c.args.walks.items c.pop.new.self.items c.in-Some.walk c.in-Some.ensures.items one
