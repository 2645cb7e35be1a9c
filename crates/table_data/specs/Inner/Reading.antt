-- What a reader of records has left.
use Rattle.std.specs.Prelude.{◌≡◌, ◌+◌, ◌⊎◌, ℕ, List, [], length, Option, Some, None, IsSome, true}
use Rattle.std.specs.Borrow.{Bor}
use Rattle.csv.specs.Reading.{Ready, records_from, default_config, source_of, reader_config, reader_state, reader_trim, is_flexible}
use Rattle.csv.specs.declared.reader.Reader.{Reader}
use Rattle.csv.specs.declared.reader.Trim.TheVariants as trim
use Rattle.csv.specs.declared.parser.State.{State}
use Rattle.csv.specs.declared.parser.State.TheVariants as state
use Rattle.table_data.specs.Records.{Record}

abbrev pub Source : Type 0
Source = Reader (Bor (List ℕ))

abbrev pub known : Option (List ℕ) → List ℕ
known None = []
known (Some bytes) = bytes

abbrev pub bytes_left : Source → Option (List ℕ)
bytes_left reader = source_of (λ s. Some s.now) reader

-- the records of what is left
abbrev pub left : Source → List Record
left reader = records_from default_config (length (known (bytes_left reader)) + 1) (reader_state reader) (known (bytes_left reader))

-- a record begins here
abbrev pub IsStart : State → Type 0
IsStart s = (s ≡ state.StartRecord) ⊎ (s ≡ state.AfterCr)

-- each read gives one record of any length, untrimmed
pub record IsReading (reader : Source) : Type 0 where
  pub config : reader_config reader ≡ default_config
  pub flexible : is_flexible reader ≡ true
  pub trim : reader_trim reader ≡ trim.None
  pub ready : Ready reader
  pub known : IsSome (bytes_left reader)
  pub start : IsStart (reader_state reader)
