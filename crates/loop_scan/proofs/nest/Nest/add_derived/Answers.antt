use Rattle.az_lin.specs.Affine.{IsAtLeastZero}
use Rattle.farkas_find.specs.Rows.{affine_of}
use Rattle.loop_scan.proofs.Lists.{mapped_at}
use Rattle.loop_scan.proofs.nest.Nest.add_derived.Goals as goal

pub rows-preserved : goal.rows-preserved
rows-preserved c =
    let added = c.in_ok-add_new.ensures in
    record {
      state = added.state;
      points = λ y e.
          let before = c.rows.invariant.points y e in
          let step = added.points y e in (
            λ a. before.0 (step.0 a),
            λ all a. step.1 (mapped_at (IsAtLeastZero y) affine_of c.args.rows.now c.rows.row-index c.row-item.result c.rows-test.true c.row-item.is all) (before.1 all a),
          );
    }
