-- How a reason is written: its word, and behind it what it carries.
use Rattle.std.specs.Prelude.{ℕ, nat_le, List, ◌++◌, codes, length, unsigned_abs, if◌then◌else◌}
use Rattle.std.specs.Fmt.{decimal}
use Rattle.az_ast.specs.declared.reason.Reason.{Reason}
use Rattle.az_ast.specs.declared.reason.Reason.TheVariants.{NoProgram, Disjoined, Unknown, Twice, Interface, Kinds, Size, Width, Factor, NoInverse, SelfInline, NotLocal, NotUsed, StillUsed, NotReduction, NotUniform, ZeroShift, NoReuse, NoSubtract, NoFactor, Split, NoSpread, Unmapped, NotCertified, Params, NoTable, OffDomain, Entry}
use Rattle.az_lin.specs.declared.fault.NoInverse.{NoInverse as Evidence}
use Rattle.az_lin.specs.declared.fault.NoInverse.TheVariants.{Kernel, Rational}
use Rattle.session_state.specs.Coordinates.{point_text, rational_point, rows_text}

-- the length of the rows of a square of so many numbers, which is at most 8, as a map has at most 8 indices
abbrev pub side : ℕ → ℕ
side count =
    if nat_le count 1 then 1 else if nat_le count 4 then 2 else if nat_le count 9 then 3 else if nat_le count 16 then 4
    else if nat_le count 25 then 5 else if nat_le count 36 then 6 else if nat_le count 49 then 7 else 8

abbrev pub evidence_text : Evidence → List ℕ
evidence_text (Kernel vector) = codes "kernel " ++ point_text 1 vector
evidence_text (Rational nums den) = codes "rational " ++ rows_text (side (length nums)) (unsigned_abs den) nums

abbrev pub named : List ℕ → List ℕ → List ℕ
named word name = word ++ (codes " " ++ name)

abbrev pub reason_text : Reason → List ℕ
reason_text NoProgram = codes "NoProgram"
reason_text (Disjoined name) = named (codes "Disjoined") name
reason_text (Unknown name) = named (codes "Unknown") name
reason_text (Twice name) = named (codes "Twice") name
reason_text (Interface name) = named (codes "Interface") name
reason_text Kinds = codes "Kinds"
reason_text Size = codes "Size"
reason_text Width = codes "Width"
reason_text Factor = codes "Factor"
reason_text (NoInverse evidence) = codes "NoInverse " ++ evidence_text evidence
reason_text SelfInline = codes "SelfInline"
reason_text (NotLocal name) = named (codes "NotLocal") name
reason_text NotUsed = codes "NotUsed"
reason_text (StillUsed name) = named (codes "StillUsed") name
reason_text NotReduction = codes "NotReduction"
reason_text (NotUniform name read) = codes "NotUniform " ++ (name ++ (codes " " ++ decimal read))
reason_text ZeroShift = codes "ZeroShift"
reason_text (NoReuse read) = codes "NoReuse " ++ decimal read
reason_text (NoSubtract piece point) = codes "NoSubtract " ++ (decimal piece ++ (codes " at " ++ rational_point point))
reason_text NoFactor = codes "NoFactor"
reason_text Split = codes "Split"
reason_text NoSpread = codes "NoSpread"
reason_text (Unmapped name) = named (codes "Unmapped") name
reason_text NotCertified = codes "NotCertified"
reason_text Params = codes "Params"
reason_text (NoTable name) = named (codes "NoTable") name
reason_text OffDomain = codes "OffDomain"
reason_text Entry = codes "Entry"
