use Rattle.std.proofs.Common.{◌≡◌, true, false, Bool, List, ℕ, ◌∷◌, []}
use Rattle.std.specs.Prelude.{MatchBool}
use Rattle.csv.specs.Reading.{ReadRecord, ReadsOn}
use Rattle.table_data.specs.Inner.Reading.{Source, IsReading, left}
use Rattle.table_data.proofs.RecordsLeft.{text_of, read-found, read-none}
use Rattle.table_data.proofs.records.next_record.Goals as goal
use Rattle.csv.specs.Records.{fields_of}

by_found : (old new : Source) (fields : List (List ℕ)) (found : Bool) → IsReading old → ReadRecord text_of old new found fields → (found ≡ true → ReadsOn old new)
    → MatchBool found (IsReading new × (left old ≡ fields ∷ left new)) (left old ≡ [])
by_found old new fields true reading read on = read-found old new fields reading read (on (λ _. true))
by_found old new fields false reading read on = read-none old new fields reading read

pub returns-in-Ok-clause-next : goal.returns-in-Ok-clause-next
returns-in-Ok-clause-next c =
    by_found c.args.reader.now c.read_byte_record.new.self (fields_of c.read_byte_record.new.row) c.in-Ok.found c.requires
    (c.in-Ok.ensures.reads c.requires.trim c.requires.ready) c.in-Ok.ensures.reads_on
