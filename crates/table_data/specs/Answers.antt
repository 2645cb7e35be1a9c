-- What is answered to a text: the table of the domain's members that its records say, the first row that is wrong or
-- missing, or why the members aren't listed. Members are listed before any record is read.
use Rattle.std.specs.Prelude.{◌≡◌, ◌⊎◌, ℕ, ℤ, List, Result, Ok, Err}
use Rattle.az_lin.specs.Affine.{Union}
use Rattle.az_ast.specs.Points.{IsMember}
use Rattle.az_ast.specs.Tables.{Rows}
use Rattle.loop_scan.specs.Members.{indices}
use Rattle.loop_scan.specs.Answers.{PointsAnswers}
use Rattle.loop_scan.specs.declared.fault.ScanFault.TheVariants as scan
use Rattle.table_data.specs.Records.{records_of}
use Rattle.table_data.specs.TableOf.{SayTable, HaveBadRow}
use Rattle.table_data.specs.declared.fault.TableFault.{TableFault}
use Rattle.table_data.specs.declared.fault.TableFault.TheVariants.{BadRow, Overflow, Entry, Limit, Memory}

abbrev pub HasPoints : Union → List ℤ → Type 0
HasPoints domain params = (points : List (List ℤ)) × PointsAnswers domain params (Ok points)

abbrev pub IsPoint : Union → List ℤ → List ℤ → Type 0
IsPoint domain params k = IsMember domain params (indices domain params) k

abbrev pub TableAnswers : Union → List ℤ → List ℕ → Result Rows TableFault → Type 0
TableAnswers domain params text (Ok table) =
    HasPoints domain params × SayTable (indices domain params) (IsPoint domain params) (records_of text) table
TableAnswers domain params text (Err (BadRow number kind)) =
    HasPoints domain params × HaveBadRow (indices domain params) (IsPoint domain params) (records_of text) number kind
TableAnswers domain params text (Err Overflow) = PointsAnswers domain params (Err scan.Overflow)
TableAnswers domain params text (Err Entry) = PointsAnswers domain params (Err scan.Entry)
TableAnswers domain params text (Err (Limit limit)) = PointsAnswers domain params (Err (scan.Limit limit))
TableAnswers domain params text (Err Memory) = Unit {0}

-- a wanted answer, or want of memory in its place
abbrev pub IsOrMemory : Result Rows TableFault → Result Rows TableFault → Type 0
IsOrMemory wanted result = (result ≡ wanted) ⊎ (result ≡ Err Memory)
