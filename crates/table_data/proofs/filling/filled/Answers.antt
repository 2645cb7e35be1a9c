use Rattle.std.proofs.Common.{◌≡◌, ◌∙◌, ◌+◌, List, Ok, Err, ℤ, length, drop, sym, subst, ap, arith}
use Rattle.std.proofs.lemmas.List.{take_at}
use Rattle.csv.specs.Records.{fields_of}
use Rattle.table_data.specs.Records.{records_of}
use Rattle.table_data.specs.Inner.Answers.{Places}
use Rattle.table_data.specs.Inner.Filling.{Values, HasRead}
use Rattle.table_data.specs.Inner.Reading.{left}
use Rattle.table_data.proofs.PlacesFilled.{places_more, places_wrong, read_few}
use Rattle.table_data.proofs.filling.filled.Goals as goal

pub overflow_add-row : goal.overflow_add-row
overflow_add-row c =
    let next = rw c.if-branch.true at c.in_ok-next_record.ensures.next in
    let few = read_few c.args.width c.args.points.now c.records.values.items c.args.text.now c.records.row (left c.records.reader) (left c.next_record.new.reader)
    (fields_of c.next_record.new.fields) c.records.invariant.read next.1 in
    omega (arith, few)

pub records-preserved : goal.records-preserved
records-preserved c =
    let next = rw c.if-branch.true at c.in_ok-next_record.ensures.next in
    let points = c.args.points.now in
    let records = records_of c.args.text.now in
    let fields = fields_of c.next_record.new.fields in
    let old = c.records.values.items in
    let new = c.put_row.new.values in
    let rest = left c.next_record.new.reader in
    let long : length new ≡ c.records.values.len = omega arith in
    let wide : length c.put_row.new.point ≡ c.records.point.len = omega arith in
    let values = take_at new (drop (length new) old) c.records.values.len long in
    let point = take_at c.put_row.new.point (drop (length c.put_row.new.point) c.records.point.items) c.records.point.len wide in
    let width : length c.as_mut_slice-in-records.result.now ≡ c.args.width = omega arith in
    let places = subst (λ (vs : Values). Places c.args.width points vs fields new (Ok c.in-Ok.place)) c.as_mut_slice.ensures.value
    (subst (λ n. Places n points c.as_mut_slice.result.now fields new (Ok c.in-Ok.place)) width c.in-Ok.ensures) in
    record {
      reading = next.0;
      width = ap (λ (xs : List ℤ). length xs) point ∙ omega arith;
      lengths = ap (λ (vs : Values). length vs) values ∙ omega arith;
      read = subst (λ (vs : Values). HasRead c.args.width points vs records (c.records.row + 1) rest) (sym values)
          (places_more points c.requires c.args.width records old new c.records.row (left c.records.reader) rest fields c.in-Ok.place c.records.invariant.read next.1 places);
    }

pub returns-in-Err : goal.returns-in-Err
returns-in-Err c =
    let next = rw c.if-branch.true at c.in_ok-next_record.ensures.next in
    let points = c.args.points.now in
    let fields = fields_of c.next_record.new.fields in
    let new = c.put_row.new.values in
    let width : length c.as_mut_slice-in-records.result.now ≡ c.args.width = omega arith in
    let places = subst (λ (vs : Values). Places c.args.width points vs fields new (Err c.in-Err.kind)) c.as_mut_slice.ensures.value
    (subst (λ n. Places n points c.as_mut_slice.result.now fields new (Err c.in-Err.kind)) width c.in-Err.ensures) in
    places_wrong points c.requires c.args.width (records_of c.args.text.now) c.records.values.items new c.records.row (left c.records.reader)
    (left c.next_record.new.reader) fields c.in-Err.kind c.records.invariant.read next.1 places
