-- The words for the variants of enums in refusals.
use Rattle.std.specs.Prelude.{ℕ, List, codes}
use Rattle.az_ast.specs.declared.fault.ShapeKind.{ShapeKind}
use Rattle.az_ast.specs.declared.fault.ShapeKind.TheVariants.{Reserved, TwiceName, UnknownName, Literal, Entry, Arity, InputEquation, TwoEquations, BadReduce, NoEquation}
use Rattle.az_lin.specs.declared.limit.Limit.{Limit}
use Rattle.az_lin.specs.declared.limit.Limit.TheVariants.{File, Commands, Size, Names, Columns, Pieces, Rows, Systems, Steps, BoxPoints, Points, Coordinate, Instances, Loads, Cells, Turns, Disjuncts}
use Rattle.domain_check.specs.declared.fault.CheckKind.{CheckKind}
use Rattle.domain_check.specs.declared.fault.CheckKind.TheVariants.{Unbounded, Overlap, Gap, Outside, Endless}
use Rattle.session_state.specs.declared.refusal.TextKind.{TextKind}
use Rattle.session_state.specs.declared.refusal.TextKind.TheVariants.{Syntax, BadByte, WideNumber}

abbrev pub text_word : TextKind → List ℕ
text_word Syntax = codes "Syntax"
text_word BadByte = codes "BadByte"
text_word WideNumber = codes "WideNumber"

abbrev pub shape_word : ShapeKind → List ℕ
shape_word Reserved = codes "Reserved"
shape_word TwiceName = codes "TwiceName"
shape_word UnknownName = codes "UnknownName"
shape_word Literal = codes "Literal"
shape_word Entry = codes "Entry"
shape_word Arity = codes "Arity"
shape_word InputEquation = codes "InputEquation"
shape_word TwoEquations = codes "TwoEquations"
shape_word BadReduce = codes "BadReduce"
shape_word NoEquation = codes "NoEquation"

abbrev pub check_word : CheckKind → List ℕ
check_word Unbounded = codes "Unbounded"
check_word Overlap = codes "Overlap"
check_word Gap = codes "Gap"
check_word Outside = codes "Outside"
check_word Endless = codes "Endless"

abbrev pub limit_word : Limit → List ℕ
limit_word File = codes "File"
limit_word Commands = codes "Commands"
limit_word Size = codes "Size"
limit_word Names = codes "Names"
limit_word Columns = codes "Columns"
limit_word Pieces = codes "Pieces"
limit_word Rows = codes "Rows"
limit_word Systems = codes "Systems"
limit_word Steps = codes "Steps"
limit_word BoxPoints = codes "Box"
limit_word Points = codes "Points"
limit_word Coordinate = codes "Coordinate"
limit_word Instances = codes "Instances"
limit_word Loads = codes "Loads"
limit_word Cells = codes "Cells"
limit_word Turns = codes "Turns"
limit_word Disjuncts = codes "Disjuncts"
