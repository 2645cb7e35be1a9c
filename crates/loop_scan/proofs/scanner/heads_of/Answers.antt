use Rattle.std.proofs.Common.{◌≡◌, ◌∷◌, [], arith, sym, subst, length, List, ⊎_elim, inl}
use Rattle.std.specs.Prelude.{Contains, ◌⊎◌}
use Rattle.std.specs.List.{All}
use Rattle.std.proofs.lemmas.List.{nil_from_length}
use Rattle.std.proofs.lemmas.List.Elements.{All-push, All-head}
use Rattle.az_lin.proofs.Lists.{All-left, All-right, Any-nil}
use Rattle.loop_scan.specs.declared.head.Head.{Head}
use Rattle.loop_scan.specs.declared.walk.Walk.{Walk}
use Rattle.loop_scan.specs.Nest.Walks.{to_come}
use Rattle.loop_scan.specs.Nest.Merges.{IsHead}
use Rattle.loop_scan.specs.Nest.Parts.{IsWalkOver, SomeWalkGives}
use Rattle.loop_scan.specs.Nest.Scans.{SomeHeadGives}
use Rattle.loop_scan.proofs.Parting.{heads_more}
use Rattle.loop_scan.proofs.scanner.heads_of.Goals as goal

pub walks-preserved : goal.walks-preserved
walks-preserved c =
    let width = c.args.width in
    let heads = c.walks.heads.items in
    let rest = c.pop.new.self.items in
    let walk = c.in-Some.walk in
    let head = c.new.result in
    let popped = c.in-Some.ensures.items in
    let pushed = c.in_ok-push.ensures.items in
    let all = subst (λ (ws : List Walk). All (IsWalkOver width) ws) popped c.walks.invariant.rest in
    let over = All-head (IsWalkOver width) walk [] (All-right (IsWalkOver width) rest (walk ∷ []) all) in
    record {
      heads = subst (λ (hs : List Head). All (IsHead width) hs) (sym pushed)
          (All-push (IsHead width) heads head c.walks.invariant.heads (subst (λ n. IsHead n head) over.levels c.new.ensures.state));
      rest = All-left (IsWalkOver width) rest (walk ∷ []) all;
      points = λ y.
          let old = c.walks.invariant.points y in
          let more = heads_more y heads rest walk head c.new.ensures.points in (
            λ s. old.0 (subst (λ (ws : List Walk). SomeHeadGives heads y ⊎ SomeWalkGives ws y) (sym popped)
                (more.0 (subst (λ (hs : List Head). SomeHeadGives hs y ⊎ SomeWalkGives rest y) pushed s))),
            λ t. subst (λ (hs : List Head). SomeHeadGives hs y ⊎ SomeWalkGives rest y) (sym pushed)
                (more.1 (subst (λ (ws : List Walk). SomeHeadGives heads y ⊎ SomeWalkGives ws y) popped (old.1 t))),
          );
    }

pub returns-clause-points : goal.returns-clause-points
returns-clause-points c = λ y.
    let old = c.walks.invariant.points y in
    let left = c.walks.left.items in
    let none : length left ≡ 0 = omega (arith, c.in_default.ensures.cases, c.walks.left.ok.0) in (
      λ h. old.0 (inl h),
      λ t. ⊎_elim (λ h. h) (λ w. absurd (Any-nil (λ (it : Walk). Contains (to_come it) y) (subst (λ (ws : List Walk). SomeWalkGives ws y) (nil_from_length left none) w))) (old.1 t),
    )
