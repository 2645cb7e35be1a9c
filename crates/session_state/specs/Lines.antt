-- The lines of refusals: what stands before them, the code, a space, the text and a line feed.
use Rattle.std.specs.Prelude.{ℕ, List, ◌++◌, codes}
use Rattle.std.specs.Fmt.{decimal}
use Rattle.session_state.specs.Codes.{code}
use Rattle.session_state.specs.Chains.{chain_text}
use Rattle.session_state.specs.Coordinates.{point_text, rational_point}
use Rattle.session_state.specs.FormulaNames.{formula_text}
use Rattle.session_state.specs.Reasons.{reason_text}
use Rattle.session_state.specs.Variants.{text_word, shape_word, check_word, limit_word}
use Rattle.session_state.specs.declared.refusal.CertificateSpot.{CertificateSpot}
use Rattle.session_state.specs.declared.refusal.CertificateSpot.TheVariants as certificate
use Rattle.session_state.specs.declared.refusal.Refusal.{Refusal}
use Rattle.session_state.specs.declared.refusal.Refusal.TheVariants.{Usage, Text, Shape, ProgramNo, Command, MappingNo, Overflow, Limited, BadTable, Certificate, Cycle}
use Rattle.session_state.specs.declared.refusal.Spot.{Spot}
use Rattle.session_state.specs.declared.refusal.Spot.TheVariants.{Check, Mapping, Invert, Scan, Piece, Schedule, Project}
use Rattle.table_data.specs.declared.fault.RowKind.{RowKind}
use Rattle.table_data.specs.declared.fault.RowKind.TheVariants.{Fields, Number, Outside, Twice, Missing}

abbrev pub usage_text : List ℕ
usage_text = codes "usage: eval PROGRAM [NAME=N or NAME@FILE]... ; run SCRIPT [--workers K] ; check SCRIPT CERTIFICATE ; make N [--workers K]"

abbrev pub spot_text : Spot → List ℕ
spot_text (Check kind variable number) = codes "check " ++ (check_word kind ++ (codes " " ++ (variable ++ (codes " case " ++ decimal number))))
spot_text (Mapping formula number) = codes "mapping " ++ (formula_text formula ++ (codes " case " ++ decimal number))
spot_text Invert = codes "invert"
spot_text Scan = codes "scan"
spot_text (Piece number) = codes "piece " ++ decimal number
spot_text Schedule = codes "schedule"
spot_text Project = codes "project"

-- what is wrong with a row
abbrev pub row_text : RowKind → List ℕ
row_text Fields = codes "Fields"
row_text Number = codes "Number"
row_text Outside = codes "Outside"
row_text Twice = codes "Twice"
row_text (Missing point) = codes "Missing " ++ point_text 1 point

-- what is wrong with a certificate
abbrev pub certificate_text : CertificateSpot → List ℕ
certificate_text (certificate.Line number) = codes "line " ++ decimal number
certificate_text (certificate.Step formula number step) = formula_text formula ++ (codes " case " ++ (decimal number ++ (codes " step " ++ decimal step)))
certificate_text (certificate.Missing formula number) = formula_text formula ++ (codes " case " ++ (decimal number ++ codes " missing"))
certificate_text certificate.Extra = codes "extra"

abbrev pub refusal_text : Refusal → List ℕ
refusal_text Usage = usage_text
refusal_text (Text file kind place) = text_word kind ++ (codes " " ++ (file ++ (codes " at " ++ decimal place)))
refusal_text (Shape kind item) = codes "Shape " ++ (shape_word kind ++ (codes " item " ++ decimal item))
refusal_text (ProgramNo kind variable number point) =
    codes "ProgramNo " ++ (check_word kind ++ (codes " " ++ (variable ++ (codes " case " ++ (decimal number ++ (codes " at " ++ rational_point point))))))
refusal_text (Command reason) = reason_text reason
refusal_text (MappingNo formula number point) =
    codes "MappingNo " ++ (formula_text formula ++ (codes " case " ++ (decimal number ++ (codes " at " ++ rational_point point))))
refusal_text (Overflow spot) = codes "Overflow " ++ spot_text spot
refusal_text (Limited limit) = codes "Limit " ++ limit_word limit
refusal_text (BadTable input row kind) = codes "Data " ++ (input ++ (codes " row " ++ (decimal row ++ (codes " " ++ row_text kind))))
refusal_text (Certificate spot) = codes "Certificate " ++ certificate_text spot
refusal_text (Cycle chain names) = codes "Cycle" ++ chain_text names chain

abbrev pub line : List ℕ → Refusal → List ℕ
line front refusal = front ++ (decimal (code refusal) ++ (codes " " ++ (refusal_text refusal ++ codes "\n")))

-- what stands before the line of a refusal that is no command's
abbrev pub program_front : List ℕ
program_front = codes "alphaz: "
