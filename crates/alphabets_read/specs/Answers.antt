-- What is answered for a text. Its tokens are read from left to right by the grammar, which has the first
-- fault; the program as written is then refused, or means a program. Want of memory may stand for any
-- answer.
use Rattle.std.specs.Prelude.{◌≡◌, ℕ, List, Result, Ok, Err, Some, ◌⊎◌}
use Rattle.az_lin.specs.declared.limit.Limit.{Limit as LimitName}
use Rattle.az_lin.specs.declared.limit.Limit.TheVariants.{Size}
use Rattle.az_ast.specs.System.{System}
use Rattle.az_ast.specs.declared.fault.ShapeFault.{ShapeFault}
use Rattle.az_ast.specs.declared.fault.ShapeFault.TheVariants as shape
use Rattle.grammar_rules.specs.declared.fault.TextFault.TheVariants as text
use Rattle.program_grammar.specs.declared.tree.ProgramText.{ProgramText}
use Rattle.program_grammar.specs.Readings.{IsReadingOf}
use Rattle.program_names.specs.ProgramOf.{IsProgramOf}
use Rattle.program_names.specs.Refusals.{refusal_of}
use Rattle.alphabets_read.specs.declared.fault.ReadFault.{ReadFault}
use Rattle.alphabets_read.specs.declared.fault.ReadFault.TheVariants.{Lex, Syntax, Shape, Limit, Memory}

-- a text that the grammar takes, and that is refused for its limits and shapes
pub record IsRefused (bytes : List ℕ) (fault : ShapeFault) : Type 0 where
  pub written : ProgramText
  pub read : IsReadingOf bytes (Ok written)
  pub refused : refusal_of written ≡ Some fault

-- an equation that grows too large while it is read, or a limit on what was read
abbrev pub IsOverLimit : List ℕ → LimitName → Type 0
IsOverLimit bytes limit = ((limit ≡ Size) × IsReadingOf bytes (Err text.Size)) ⊎ IsRefused bytes (shape.Limit limit)

abbrev pub IsFaultOf : List ℕ → ReadFault → Type 0
IsFaultOf bytes (Lex fault) = IsReadingOf bytes (Err (text.Lex fault))
IsFaultOf bytes (Syntax place) = IsReadingOf bytes (Err (text.Syntax place))
IsFaultOf bytes (Shape kind item) = IsRefused bytes (shape.Shape kind item)
IsFaultOf bytes (Limit limit) = IsOverLimit bytes limit
IsFaultOf bytes Memory = Unit {0}

abbrev pub IsAnswerOf : List ℕ → Result System ReadFault → Type 0
IsAnswerOf bytes (Ok p) = IsProgramOf bytes p
IsAnswerOf bytes (Err fault) = IsFaultOf bytes fault
