use Rattle.std.proofs.Common.{◌≡◌, [], List, ℕ, ℤ, refl, sym, subst}
use Rattle.std.specs.Int.{w64}
use Rattle.std.specs.Prelude.{slice_index_or}
use Rattle.std.proofs.lemmas.Int.{to_z-of_z}
use Rattle.csv.specs.Records.{fields_of}
use Rattle.table_data.specs.Numbers.{IsNumber}
use Rattle.table_data.proofs.RecordRows.{field-at}
use Rattle.table_data.proofs.row.number_at.Goals as goal

pub unreachable-requires : goal.unreachable-requires
unreachable-requires c =
    let found = rw c.in_default.is at c.get.ensures.value in
    let there = field-at (fields_of c.args.fields.now) c.args.place c.requires in
    cc

pub returns-in-Some-number : goal.returns-in-Some-number
returns-in-Some-number c =
    let fields = fields_of c.args.fields.now in
    let found = c.in-Some.ensures.value in
    let there = field-at fields c.args.place c.requires in
    let same : c.in-Some.field.now ≡ slice_index_or fields c.args.place [] = cc in
    let number = c.in-Some-number.ensures in
    subst (λ (z : ℤ). IsNumber (slice_index_or fields c.args.place []) z) (sym (to_z-of_z w64 c.in-Some-number.value number.0))
    (subst (λ (f : List ℕ). IsNumber f c.in-Some-number.value) same number)

pub returns-in-None : goal.returns-in-None
returns-in-None c =
    let fields = fields_of c.args.fields.now in
    let found = c.in-Some.ensures.value in
    let there = field-at fields c.args.place c.requires in
    let same : c.in-Some.field.now ≡ slice_index_or fields c.args.place [] = cc in
    (refl, λ z said. c.in-None.ensures z (subst (λ (f : List ℕ). IsNumber f z) (sym same) said))
