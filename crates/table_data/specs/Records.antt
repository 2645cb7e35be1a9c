-- The records of a text, without a header and of any length, as CSV reads them: a byte-order mark and blank lines are
-- passed over, and a quoted field that isn't closed ends with the text. A field is the list of its bytes.
use Rattle.std.specs.Prelude.{ℕ, List}
use Rattle.csv.specs.Reading.{records, default_config, strip_bom}

abbrev pub Record : Type 0
Record = List (List ℕ)

abbrev pub records_of : List ℕ → List Record
records_of text = records default_config (strip_bom text)
