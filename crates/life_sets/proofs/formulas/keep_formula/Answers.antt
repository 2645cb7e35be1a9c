use Rattle.std.proofs.Common.{◌≡◌, ◌≤◌, [], length, sym, ap, subst, All, arith}
use Rattle.az_lin.specs.Affine.{Union}
use Rattle.expr_places.specs.declared.scope.Scope.{Scope}
use Rattle.life_sets.specs.Beside.{IsWriter}
use Rattle.life_sets.specs.Stored.{IsStored, FitsVisit, IsInstance}
use Rattle.life_sets.proofs.Instances.{is_writer, own_rows, stored_own, output_inside}
use Rattle.life_sets.proofs.LifeFormulas.{over_claims, keep_made}
use Rattle.life_sets.proofs.Pushes.{own_instance}
use Rattle.order_sets.specs.Visits.{own_visit, writer_visit}
use Rattle.order_sets.specs.declared.visit.Visit.{Visit}
use Rattle.order_sets.proofs.Formulas.{lacks, has}
use Rattle.order_sets.proofs.Making.{new_made, all_made}
use Rattle.target_map.specs.Times.{domain_of}
use Rattle.life_sets.proofs.formulas.keep_formula.Goals as goal

pub writer_behind-requires-clause-columns : goal.writer_behind-requires-clause-columns
writer_behind-requires-clause-columns c =
    let p = c.args.target.now.program.now in
    let P : Scope → Type 0 = λ scope. IsWriter p c.args.y scope.width in
    subst P (sym c.requires.scope) (is_writer p c.args.y (domain_of p c.args.x).width c.requires.writer c.requires.output.params c.requires.output.narrow)

pub returns-in_default : goal.returns-in_default
returns-in_default c = λ fits.
    let p = c.args.target.now.program.now in
    let m = c.args.target.now.mapping.now in
    let width = c.args.around.now.scope.now.width in
    let same : width ≡ (domain_of p c.args.x).width = ap (λ (scope : Scope). scope.width) c.requires.scope in
    let visit = writer_visit p c.args.y width in
    lacks (FitsVisit m visit) (IsInstance m visit) c.in_ok-writer.field-0 c.in_ok-writer.ensures c.in_default.not-Some
    (subst (λ n. FitsVisit m (writer_visit p c.args.y n)) (sym same) fits.writer)

pub push_beside-requires-clause-beside : goal.push_beside-requires-clause-beside
push_beside-requires-clause-beside c =
    let p = c.args.target.now.program.now in
    let m = c.args.target.now.mapping.now in
    let x = c.args.x in
    let scope = c.args.around.now.scope.now in
    let visit = writer_visit p c.args.y scope.width in
    let writer = has (FitsVisit m visit) (IsInstance m visit) c.in_ok-writer.field-0 c.in-Some.writer c.in_ok-writer.ensures c.in-Some.is in
    let own = (domain_of p x).width in
    let point = c.requires.point in
    let rows = own_rows p x own in
    let inside = c.requires.output.params in
    let same = ap (λ (v : Visit). length v.at.rows) point.at in
    record {
      inside = subst (λ (s : Scope). All (λ (domain : Union). domain.width ≤ s.width) s.domains) (sym c.requires.scope)
          (output_inside p x c.requires.output c.requires.target.parameters);
      columns = subst (λ (s : Scope). IsWriter p c.args.y s.width) (sym c.requires.scope) (is_writer p c.args.y own c.requires.writer c.requires.output.params c.requires.output.narrow);
      stores = writer.0;
      there = own_instance m (own_visit p x own) c.args.point.now point;
      stored = subst (IsStored m) (sym point.at) (stored_own p m c.requires.target.complete x own c.requires.output);
      rows = omega (arith, rows, inside, same);
    }

pub returns : goal.returns
returns c =
    let p = c.args.target.now.program.now in
    let m = c.args.target.now.mapping.now in
    let scope = c.args.around.now.scope.now in
    let y = c.args.y in
    let same : scope.width ≡ (domain_of p c.args.x).width = ap (λ (s : Scope). s.width) c.requires.scope in
    let visit = writer_visit p y scope.width in
    let writer = has (FitsVisit m visit) (IsInstance m visit) c.in_ok-writer.field-0 c.in-Some.writer c.in_ok-writer.ensures c.in-Some.is in
    let over_it = over_claims p m scope y c.args.point.now.visit in
    keep_made p m c.args.x y scope c.args.point.now.visit c.all.result c.requires.scope c.requires.point.at (subst (λ n. FitsVisit m (writer_visit p y n)) same writer.1)
    (all_made over_it c.push_beside.new.members c.all.result c.all.ensures (c.in_ok-push_beside.ensures [] (new_made c.new-members.result c.new-members.ensures)))
