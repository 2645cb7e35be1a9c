-- What is answered for a program as written: the program that it means exactly where nothing refuses it,
-- and else why it is refused. Want of memory may stand for any answer.
use Rattle.std.specs.Prelude.{◌≡◌, Some, None, Result, Ok, Err}
use Rattle.az_ast.specs.System.{System}
use Rattle.az_ast.specs.declared.fault.ShapeFault.{ShapeFault}
use Rattle.az_ast.specs.declared.fault.ShapeFault.TheVariants.{Shape, Limit, Memory}
use Rattle.program_grammar.specs.declared.tree.ProgramText.{ProgramText}
use Rattle.program_names.specs.Refusals.{refusal_of}
use Rattle.program_names.specs.Resolved.{system_of}

-- the program of a text that isn't refused
pub record Means (text : ProgramText) (p : System) : Type 0 where
  pub accepted : refusal_of text ≡ None
  pub meant : p ≡ system_of text

abbrev pub Resolves : ProgramText → Result System ShapeFault → Type 0
Resolves text (Ok p) = Means text p
Resolves text (Err (Shape kind item)) = refusal_of text ≡ Some (Shape kind item)
Resolves text (Err (Limit limit)) = refusal_of text ≡ Some (Limit limit)
Resolves text (Err Memory) = Unit {0}
