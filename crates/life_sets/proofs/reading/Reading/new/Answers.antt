use Rattle.std.proofs.Common.{◌≡◌, ◌∙◌, ap, sym, subst}
use Rattle.az_lin.specs.Substitution.{HasEntryRows}
use Rattle.expr_places.specs.Lent.{read_of}
use Rattle.life_sets.specs.Stored.{IsStored, FitsVisit, IsInstance}
use Rattle.life_sets.proofs.Instances.{stored_read}
use Rattle.order_sets.specs.Rows.{stamp_of}
use Rattle.order_sets.specs.Timed.{IsTimed}
use Rattle.order_sets.specs.Visits.{time_map, time_rows}
use Rattle.order_sets.specs.declared.time_rows.TimeRows.{TimeRows}
use Rattle.order_sets.specs.declared.visit.Visit.{Visit}
use Rattle.order_sets.proofs.Formulas.{lacks, has}
use Rattle.order_sets.proofs.Timed.{timed_own}
use Rattle.life_sets.proofs.reading.Reading.new.Goals as goal

pub new-requires : goal.new-requires
new-requires c =
    let m = c.args.target.now.mapping.now in
    subst (IsStored m) (sym c.in_ok-point.ensures) (stored_read c.args.target.now.program.now m c.requires.target.complete c.args.x (read_of c.args.read.now) c.requires.read)

pub returns-in_default : goal.returns-in_default
returns-in_default c = λ fits.
    let m = c.args.target.now.mapping.now in
    lacks (FitsVisit m c.in_ok-point.point) (IsInstance m c.in_ok-point.point) c.in_ok-point-2.field-0 c.in_ok-point-2.ensures c.in_default.not-Some (subst (FitsVisit m) (sym c.in_ok-point.ensures) fits.point)

pub of_visit-requires : goal.of_visit-requires
of_visit-requires c =
    let m = c.args.target.now.mapping.now in
    subst (IsTimed m) (sym c.in_ok-reader.ensures)
    (timed_own c.args.target.now.program.now m c.requires.target.complete c.args.x c.args.read.now.scope.width c.requires.reader.written c.requires.reader.narrow)

pub returns-in_default-2 : goal.returns-in_default-2
returns-in_default-2 c = λ fits.
    let m = c.args.target.now.mapping.now in
    lacks (HasEntryRows (time_map m c.in_ok-reader.reader)) (λ (rows : TimeRows). stamp_of rows ≡ time_rows m c.in_ok-reader.reader) c.in_ok-time.field-0 c.in_ok-time.ensures c.in_default-2.not-Some
    (subst (λ (visit : Visit). HasEntryRows (time_map m visit)) (sym c.in_ok-reader.ensures) fits.reader)

pub returns : goal.returns
returns c =
    let m = c.args.target.now.mapping.now in
    let point = has (FitsVisit m c.in_ok-point.point) (IsInstance m c.in_ok-point.point) c.in_ok-point-2.field-0 c.in-Some.point c.in_ok-point-2.ensures c.in-Some.is in
    let time = has (HasEntryRows (time_map m c.in_ok-reader.reader)) (λ (rows : TimeRows). stamp_of rows ≡ time_rows m c.in_ok-reader.reader) c.in_ok-time.field-0 c.in-Some-2.time c.in_ok-time.ensures c.in-Some-2.is in (
      record {
        point = subst (λ (visit : Visit). IsInstance m visit c.in-Some.point) c.in_ok-point.ensures point.0;
        reader = c.in_ok-reader.ensures;
        time = time.0 ∙ ap (time_rows m) c.in_ok-reader.ensures;
      },
      record {
        point = subst (FitsVisit m) c.in_ok-point.ensures point.1;
        reader = subst (λ (visit : Visit). HasEntryRows (time_map m visit)) c.in_ok-reader.ensures time.1;
      },
    )
