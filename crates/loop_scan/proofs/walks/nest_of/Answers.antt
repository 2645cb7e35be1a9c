use Rattle.std.proofs.Common.{◌≡◌, ◌∙◌, sym, subst, take, List}
use Rattle.std.specs.List.{All}
use Rattle.std.proofs.lemmas.List.{take_all}
use Rattle.az_lin.specs.Affine.{Affine, IsAtLeastZero}
use Rattle.loop_scan.proofs.Lists.{all_more}
use Rattle.loop_scan.proofs.walks.nest_of.Goals as goal

pub rows-preserved : goal.rows-preserved
rows-preserved c =
    record {
      state = c.in_ok-add.ensures.state;
      points = λ y e.
          let before = c.rows.invariant.points y e in
          let added = c.in_ok-add.ensures.points y e in
          let more = all_more (IsAtLeastZero y) c.rows-row-items.result.now c.rows.row-index c.row-item.result c.rows-test.true c.row-item.is in (
            λ a. let p = added.0 a in let q = before.0 p.0 in (q.0, more.1 (q.1, p.1)),
            λ b. let q = more.0 b.1 in added.1 (before.1 (b.0, q.0), q.1),
          );
    }

pub returns-clause-points : goal.returns-clause-points
returns-clause-points c = λ y e.
    let middle = c.rows.invariant.points y e in
    let step = c.in_ok-narrow.ensures.points y e in
    let rows = c.rows-row-items.result.now in
    let whole : take c.rows.row-index rows ≡ c.args.system.now.rows = take_all c.rows.row-index rows c.rows-test.false ∙ c.rows-row-items.ensures.value in (
      λ a. subst (λ (rs : List Affine). All (IsAtLeastZero y) rs) whole (middle.0 (step.0 a)).1,
      λ h. step.1 h (middle.1 (c.requires.points y e h, subst (λ (rs : List Affine). All (IsAtLeastZero y) rs) (sym whole) h)),
    )
