use Rattle.std.proofs.Common.{◌≤◌, ◌∙◌, [], ◌++◌, length, sym, ap, subst, arith}
use Rattle.std.proofs.lemmas.List.Elements.{All-from_recursion}
use Rattle.az_lin.specs.Affine.{Union}
use Rattle.expr_places.specs.Lent.{read_of}
use Rattle.expr_places.specs.declared.scope.Scope.{Scope}
use Rattle.life_sets.specs.Beside.{comes_before}
use Rattle.life_sets.specs.Ready.{IsBeside}
use Rattle.life_sets.specs.Stored.{IsStored, FitsVisit, IsInstance}
use Rattle.life_sets.proofs.Instances.{is_writer, read_rows, own_rows, writer_rows, stored_read}
use Rattle.life_sets.proofs.LifeFormulas.{over_claims, life_made}
use Rattle.life_sets.proofs.Pushes.{own_instance}
use Rattle.order_sets.specs.Made.{AreMade}
use Rattle.order_sets.specs.Visits.{read_visit, writer_visit, time_rows}
use Rattle.order_sets.specs.declared.visit.Visit.{Visit}
use Rattle.order_sets.proofs.Formulas.{lacks, has}
use Rattle.order_sets.proofs.Making.{new_made, all_made}
use Rattle.order_sets.proofs.Timed.{width_at}
use Rattle.life_sets.proofs.formulas.life_formula.Goals as goal

pub writer_behind-requires-clause-columns : goal.writer_behind-requires-clause-columns
writer_behind-requires-clause-columns c = is_writer c.args.target.now.program.now c.args.y c.args.read.now.scope.width c.requires.writer c.requires.read.at.params c.requires.read.narrow

pub returns-in_default : goal.returns-in_default
returns-in_default c = λ fits.
    let m = c.args.target.now.mapping.now in
    let visit = writer_visit c.args.target.now.program.now c.args.y c.args.read.now.scope.width in
    lacks (FitsVisit m visit) (IsInstance m visit) c.in_ok-writer.field-0 c.in_ok-writer.ensures c.in_default.not-Some fits.writer

pub push_beside-requires-clause-beside : goal.push_beside-requires-clause-beside
push_beside-requires-clause-beside c =
    let p = c.args.target.now.program.now in
    let m = c.args.target.now.mapping.now in
    let read = read_of c.args.read.now in
    let of = c.requires.read in
    let visit = writer_visit p c.args.y read.scope.width in
    let writer = has (FitsVisit m visit) (IsInstance m visit) c.in_ok-writer.field-0 c.in-Some.writer c.in_ok-writer.ensures c.in-Some.is in
    let point = c.requires.reading.point in
    let rows = read_rows p c.args.x read of in
    let width = width_at p read.variable of.variable of.declared in
    let sum = of.at.rows in
    let same = ap (λ (v : Visit). length v.at.rows) point.at in
    subst (λ (s : Scope). IsBeside p m s c.args.y c.in-Some.writer c.args.reading.now.point) (sym c.requires.scope) (record {
      inside = All-from_recursion (λ (domain : Union). domain.width ≤ read.scope.width) read.scope.domains of.inside;
      columns = is_writer p c.args.y read.scope.width c.requires.writer of.at.params of.narrow;
      stores = writer.0;
      there = own_instance m (read_visit p read) c.args.reading.now.point point;
      stored = subst (IsStored m) (sym point.at) (stored_read p m c.requires.target.complete c.args.x read of);
      rows = omega (arith, rows, width, sum, same);
    })

pub push_comes_before-requires-clause-writer : goal.push_comes_before-requires-clause-writer
push_comes_before-requires-clause-writer c =
    let m = c.args.target.now.mapping.now in
    let visit = writer_visit c.args.target.now.program.now c.args.y c.args.read.now.scope.width in
    let writer = has (FitsVisit m visit) (IsInstance m visit) c.in_ok-writer.field-0 c.in-Some.writer c.in_ok-writer.ensures c.in-Some.is in
    own_instance m visit c.in-Some.writer writer.0

pub push_comes_before-requires-clause-reader : goal.push_comes_before-requires-clause-reader
push_comes_before-requires-clause-reader c = c.requires.reading.time ∙ ap (time_rows c.args.target.now.mapping.now) (sym c.requires.reading.reader)

pub push_comes_before-requires-clause-first : goal.push_comes_before-requires-clause-first
push_comes_before-requires-clause-first c =
    let p = c.args.target.now.program.now in
    let m = c.args.target.now.mapping.now in
    let visit = writer_visit p c.args.y c.args.read.now.scope.width in
    let writer = has (FitsVisit m visit) (IsInstance m visit) c.in_ok-writer.field-0 c.in-Some.writer c.in_ok-writer.ensures c.in-Some.is in
    let inside = c.requires.writer.params in
    let rows = writer_rows p c.args.y c.args.read.now.scope.width inside in
    let same = ap (λ (v : Visit). length v.at.rows) writer.0.at in
    omega (arith, inside, rows, same)

pub push_comes_before-requires-clause-second : goal.push_comes_before-requires-clause-second
push_comes_before-requires-clause-second c =
    let p = c.args.target.now.program.now in
    let inside = c.requires.reader.params in
    let rows = own_rows p c.args.x c.args.read.now.scope.width in
    let same = ap (λ (v : Visit). length v.at.rows) c.requires.reading.reader in
    omega (arith, inside, rows, same)

pub returns : goal.returns
returns c =
    let p = c.args.target.now.program.now in
    let m = c.args.target.now.mapping.now in
    let read = read_of c.args.read.now in
    let y = c.args.y in
    let visit = writer_visit p y read.scope.width in
    let writer = has (FitsVisit m visit) (IsInstance m visit) c.in_ok-writer.field-0 c.in-Some.writer c.in_ok-writer.ensures c.in-Some.is in
    let reading = c.args.reading.now in
    let over_it = over_claims p m read.scope y reading.point.visit in
    let after = comes_before p m c.in-Some.writer.visit reading.reader in
    life_made p m c.args.x read y reading.point.visit reading.reader c.in-Some.writer.visit c.all.result c.requires.reading.point.at c.requires.reading.reader writer.0.at writer.1
    (all_made (over_it ++ after) c.push_comes_before.new.members c.all.result c.all.ensures
    (subst (λ (s : Scope). AreMade (over_claims p m s y reading.point.visit ++ after) c.push_comes_before.new.members) c.requires.scope
    (c.in_ok-push_comes_before.ensures (over_claims p m c.args.around.now.scope.now y reading.point.visit) (c.in_ok-push_beside.ensures [] (new_made c.new-members.result c.new-members.ensures)))))
