use Rattle.std.proofs.Common.{sym, subst, map, arith, List, Option}
use Rattle.std.specs.List.{All}
use Rattle.std.proofs.lemmas.Bool.{true≢false}
use Rattle.az_lin.specs.Affine.{Affine, IsAtLeastZero}
use Rattle.farkas_find.specs.Rows.{affine_of}
use Rattle.farkas_find.specs.declared.wide.WideRow.{WideRow}
use Rattle.loop_scan.specs.Nest.Nests.{FollowsRows}
use Rattle.loop_scan.proofs.nest.Nest.narrow.Goals as goal

pub returns-in_default-clause-points : goal.returns-in_default-clause-points
returns-in_default-clause-points c = λ y e.
    let none = subst (λ (o : Option (List WideRow)). FollowsRows c.args.width c.rows-given.result.now c.loop-column.rows o) c.in_default.is c.in_ok-left.ensures.ok in
    (λ a. absurd (true≢false a.0), λ h a. absurd (none y (c.loop-column.invariant.sound y e h)))

pub loop-column-preserved : goal.loop-column-preserved
loop-column-preserved c =
    let inv = c.loop-column.invariant in
    let left = c.in-Some.left in
    let next = subst (λ (o : Option (List WideRow)). FollowsRows c.args.width c.rows-given.result.now c.loop-column.rows o) c.in-Some.is c.in_ok-left.ensures.ok in
    record {
      state = c.in_ok-add_derived.ensures.state;
      inside = omega (arith, inv.inside);
      widths = next.columns;
      range = next.range;
      sound = λ y e h. next.sound y (subst (λ (rows : List Affine). All (IsAtLeastZero y) rows) (sym c.rows-given.ensures.value) h) (inv.sound y e h);
      points = λ y e.
          let before = inv.points y e in
          let step = c.in_ok-add_derived.ensures.points y e in (
            λ a. before.0 (step.0 a),
            λ h a. step.1 (subst (λ (rows : List WideRow). All (IsAtLeastZero y) (map affine_of rows)) (sym c.as_slice.ensures)
                (next.sound y (subst (λ (rows : List Affine). All (IsAtLeastZero y) rows) (sym c.rows-given.ensures.value) h) (inv.sound y e h))) (before.1 h a),
          );
    }
