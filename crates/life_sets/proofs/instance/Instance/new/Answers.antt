use Rattle.std.proofs.Common.{◌≡◌, refl}
use Rattle.az_lin.specs.Affine.{AffineMap}
use Rattle.az_lin.specs.Substitution.{HasEntryRows}
use Rattle.life_sets.specs.Cells.{cell_map}
use Rattle.order_sets.specs.Rows.{stamp_of}
use Rattle.order_sets.specs.Visits.{time_map, time_rows}
use Rattle.order_sets.specs.declared.time_rows.TimeRows.{TimeRows}
use Rattle.order_sets.proofs.Formulas.{lacks, has}
use Rattle.life_sets.proofs.instance.Instance.new.Goals as goal

pub returns-in_default : goal.returns-in_default
returns-in_default c = λ fits.
    let m = c.args.mapping.now in
    lacks (HasEntryRows (time_map m c.args.visit)) (λ (rows : TimeRows). stamp_of rows ≡ time_rows m c.args.visit) c.in_ok-time.field-0 c.in_ok-time.ensures c.in_default.not-Some fits.time

pub returns-in_default-2 : goal.returns-in_default-2
returns-in_default-2 c = λ fits.
    let m = c.args.mapping.now in
    lacks (HasEntryRows (cell_map m c.args.visit)) (λ (map : AffineMap). map ≡ cell_map m c.args.visit) c.in_ok-cell.field-0 c.in_ok-cell.ensures c.in_default-2.not-Some fits.cell

pub returns : goal.returns
returns c =
    let m = c.args.mapping.now in
    let time = has (HasEntryRows (time_map m c.args.visit)) (λ (rows : TimeRows). stamp_of rows ≡ time_rows m c.args.visit) c.in_ok-time.field-0 c.in-Some.time c.in_ok-time.ensures c.in-Some.is in
    let cell = has (HasEntryRows (cell_map m c.args.visit)) (λ (map : AffineMap). map ≡ cell_map m c.args.visit) c.in_ok-cell.field-0 c.in-Some-2.cell c.in_ok-cell.ensures c.in-Some-2.is in
    (record { at = refl; time = time.0; cell = cell.0 }, record { time = time.1; cell = cell.1 })
