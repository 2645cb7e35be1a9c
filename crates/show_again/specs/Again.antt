-- What is shown of a program that can be written is a text of exactly that program.
use Rattle.az_ast.specs.Shapes.{IsProgram}
use Rattle.az_ast.specs.System.{System}
use Rattle.az_ast.specs.Writable.{IsWritable}
use Rattle.alphabets_show.specs.Shown.{shown}
use Rattle.program_names.specs.ProgramOf.{IsProgramOf}

abbrev pub ShownIsTheProgram : Type 0
ShownIsTheProgram = (p : System) → IsProgram p → IsWritable p → IsProgramOf (shown p) p
