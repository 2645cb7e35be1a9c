use Rattle.std.proofs.Common.{◌≡◌, [], ◌∷◌, ◌∙◌, ap, sym, subst, Option, arith}
use Rattle.az_lin.specs.Substitution.{HasEntryRows}
use Rattle.domain_check.specs.Context.{in_force}
use Rattle.expr_places.specs.Lent.{read_of}
use Rattle.formula_refute.specs.declared.formula.Formula.{Formula}
use Rattle.formula_refute.specs.Claims.{claim}
use Rattle.formula_refute.proofs.Outcomes.{ok_then}
use Rattle.order_sets.specs.Made.{IsMade, MadeIf}
use Rattle.order_sets.specs.NotBefore.{not_before}
use Rattle.order_sets.specs.Orders.{order_claim}
use Rattle.order_sets.specs.Rows.{stamp_of}
use Rattle.order_sets.specs.Stated.{FitsOrder}
use Rattle.order_sets.specs.Timed.{IsTimed}
use Rattle.order_sets.specs.Visits.{time_map, time_rows}
use Rattle.order_sets.specs.declared.time_rows.TimeRows.{TimeRows}
use Rattle.order_sets.specs.declared.visit.Visit.{Visit}
use Rattle.order_sets.proofs.Formulas.{lacks, has, order_made}
use Rattle.order_sets.proofs.Timed.{within, timed_read, timed_own}
use Rattle.order_sets.proofs.orders.order_formula.Goals as goal

pub of_visit-requires : goal.of_visit-requires
of_visit-requires c =
    subst (IsTimed c.args.mapping.now) (sym c.in_ok-point.ensures) (timed_read c.args.program.now c.args.mapping.now c.requires.complete c.args.x (read_of c.args.read.now) c.requires.read)

pub returns-in_default : goal.returns-in_default
returns-in_default c = λ fits.
    let m = c.args.mapping.now in
    lacks (HasEntryRows (time_map m c.in_ok-point.point)) (λ (rows : TimeRows). stamp_of rows ≡ time_rows m c.in_ok-point.point) c.in_ok-point-2.field-0 c.in_ok-point-2.ensures c.in_default.not-Some
    (subst (λ (visit : Visit). HasEntryRows (time_map m visit)) (sym c.in_ok-point.ensures) fits.point)

pub of_first-requires-clause-declared : goal.of_first-requires-clause-declared
of_first-requires-clause-declared c = within c.args.program.now c.args.x c.requires.written

pub of_visit-requires-2 : goal.of_visit-requires-2
of_visit-requires-2 c =
    let reader = c.requires.read.reader in
    let narrow = c.requires.read.narrow in
    subst (IsTimed c.args.mapping.now) (sym c.in_ok-reader.ensures)
    (timed_own c.args.program.now c.args.mapping.now c.requires.complete c.args.x c.args.read.now.scope.width c.requires.written (omega (arith, reader, narrow)))

pub returns-in_default-2 : goal.returns-in_default-2
returns-in_default-2 c = λ fits.
    let m = c.args.mapping.now in
    lacks (HasEntryRows (time_map m c.in_ok-reader.reader)) (λ (rows : TimeRows). stamp_of rows ≡ time_rows m c.in_ok-reader.reader) c.in_ok-reader-2.field-0 c.in_ok-reader-2.ensures c.in_default-2.not-Some
    (subst (λ (visit : Visit). HasEntryRows (time_map m visit)) (sym c.in_ok-reader.ensures) fits.reader)

pub returns : goal.returns
returns c =
    let p = c.args.program.now in
    let m = c.args.mapping.now in
    let read = read_of c.args.read.now in
    let point = has (HasEntryRows (time_map m c.in_ok-point.point)) (λ (rows : TimeRows). stamp_of rows ≡ time_rows m c.in_ok-point.point) c.in_ok-point-2.field-0 c.in-Some.point c.in_ok-point-2.ensures c.in-Some.is in
    let reader = has (HasEntryRows (time_map m c.in_ok-reader.reader)) (λ (rows : TimeRows). stamp_of rows ≡ time_rows m c.in_ok-reader.reader) c.in_ok-reader-2.field-0 c.in-Some-2.reader c.in_ok-reader-2.ensures c.in-Some-2.is in
    let fits : Visit → Type 0 = λ visit. HasEntryRows (time_map m visit) in
    let made : Option Formula → Type 0 = IsMade (in_force read.scope (not_before c.args.sizes.now (stamp_of c.in-Some.point) (stamp_of c.in-Some-2.reader) ∷ [])) in
    let wanted : Option Formula → Type 0 = MadeIf (FitsOrder p m c.args.x read) (λ formula. claim formula ≡ order_claim p m c.args.x read) in
    ok_then made wanted
    (λ o is.
    order_made p m c.args.x read c.args.sizes.now (stamp_of c.in-Some.point) (stamp_of c.in-Some-2.reader) o c.requires.sizes
    (point.0 ∙ ap (time_rows m) c.in_ok-point.ensures) (reader.0 ∙ ap (time_rows m) c.in_ok-reader.ensures)
    (subst fits c.in_ok-point.ensures point.1) (subst fits c.in_ok-reader.ensures reader.1) is)
    c.formula_of.result c.formula_of.ensures
